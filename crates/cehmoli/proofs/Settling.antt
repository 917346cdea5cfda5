-- A call is settled by its arguments.
use Rattle.std.proofs.Common.{◌≡◌, ℕ, ◌≤◌, List, [], ◌∷◌, ◌++◌, All, Contains, length, get_or, take, drop, Some, None, Ok, Err, Option, Result, sym, refl, ap, ◌∙◌, subst, ap₂, inl, inr, ◌==◌, arith}
use Rattle.std.specs.List.{AllZip, slice_get, find}
use Rattle.std.proofs.lemmas.List.{ext_get_or, length-take, take-append-drop}
use Rattle.std.proofs.lemmas.List.Elements.{All-nil, All-cons}
use Rattle.std.proofs.lemmas.Option.{same_Some, slice_get_within, get_or_from_slice_get}
use Rattle.class.specs.Kinds.{Joined}
use Rattle.class.specs.declared.kind.Refusal.{Refusal}
use Rattle.clauses.specs.Clauses.{Covers, each}
use Rattle.clauses.specs.Joins.{raw}
use Rattle.number.specs.Writes.{Wrote}
use Rattle.number.specs.declared.fault.NoRoom.{NoRoom}
use Rattle.record.specs.Clauses.{variables}
use Rattle.record.specs.Kind.{records, laws}
use Rattle.record.specs.Reads.{read_record, clause_form}
use Rattle.record.specs.Records.{literals, clause}
use Rattle.record.specs.Reductions.{Tidying, Beyond}
use Rattle.record.specs.declared.clause.Record.{Record}
use Rattle.record.specs.declared.fault.RecordFault.{RecordFault}
use Rattle.session.proofs.Oneness.{tidying-one, not-both, each-one}
use Rattle.subsume.specs.FirstChoices.{Chooses, NoLater, FirstChoice}
use Rattle.term.specs.Words.{Word, Words, sub}
use Rattle.witness.specs.Witness.{meetings, Witness, Witnessed}
use Rattle.witness.specs.declared.witnesses.TooFewEntries.{TooFewEntries}
use Rattle.cehmoli.specs.Answers.{answered, refused}
use Rattle.cehmoli.specs.Calls.{OfBoth, witness_answer, WitnessAnswer, WitnessCall, write_answer, Packs, JoinAnswer, JoinCall, Settled}
use Rattle.cehmoli.specs.declared.answers.Answer.{Answer}

-- an answer that tells which input is no record leaves what was lent; so a call is settled where it is so of two records
of_both : (first second : Result Words RecordFault) (before : List ℕ) (Of : Words → Words → Answer → List ℕ → Type 0)
    → ((xs ys : Words) → Settled (Of xs ys)) → Settled (λ answer after. OfBoth first second answer before after (λ xs ys. Of xs ys answer after))
of_both (Ok xs) (Ok ys) before Of s = s xs ys
of_both (Ok xs) (Err e) before Of s = λ a b after other p q. (p.0 ∙ sym q.0, p.1 ∙ sym q.1)
of_both (Err e) second before Of s = λ a b after other p q. (p.0 ∙ sym q.0, p.1 ∙ sym q.1)

-- there is one first choice, and its rule covers
no_later-both : (js ks : List ℕ) → NoLater js ks → NoLater ks js → js ≡ ks
no_later-both [] [] p q = refl
no_later-both [] (k ∷ ks) p q = absurd q
no_later-both (j ∷ js) [] p q = absurd p
no_later-both (j ∷ js) (k ∷ ks) (inl l) (inl m) = absurd (omega arith)
no_later-both (j ∷ js) (k ∷ ks) (inl l) (inr m) = absurd (omega (arith, l, m.0))
no_later-both (j ∷ js) (k ∷ ks) (inr l) (inl m) = absurd (omega (arith, l.0, m))
no_later-both (j ∷ js) (k ∷ ks) (inr l) (inr m) = ap₂ (λ (x : ℕ) (xs : List ℕ). x ∷ xs) l.0 (no_later-both js ks l.1 m.1)

first-one : (rule mount : List Word) (js ks : List ℕ) → FirstChoice rule mount js → FirstChoice rule mount ks → js ≡ ks
first-one rule mount js ks f g = no_later-both js ks (f.1 ks g.0) (g.1 js f.0)

chosen-all : (θ : ℕ → Word) (mount rule : List Word) (js : List ℕ) → AllZip (λ l j. slice_get mount j ≡ Some (sub θ l)) rule js → All (λ l. Contains mount (sub θ l)) rule
chosen-all θ mount [] [] z = All-nil (λ l. Contains mount (sub θ l))
chosen-all θ mount [] (j ∷ js) z = absurd z
chosen-all θ mount (l ∷ ls) [] z = absurd z
chosen-all θ mount (l ∷ ls) (j ∷ js) z =
    All-cons (λ l. Contains mount (sub θ l)) l ls
    (j, slice_get_within mount j (sub θ l) z.0, get_or_from_slice_get mount j (sub θ l) (sub θ l) z.0)
    (chosen-all θ mount ls js z.1)

chooses-covers : (rule mount : List Word) (js : List ℕ) → Chooses rule mount js → Covers rule mount
chooses-covers rule mount js c = (c.0, chosen-all c.0 mount rule js c.1)

-- there is one witness
witness-one : (rule mount : Words) (ps qs : List ℕ) → Witness rule mount ps → Witness rule mount qs → ps ≡ qs
witness-one rule mount ps qs p q =
    let same = first-one (each rule) (each mount) p.0 q.0 p.1 q.1 in
    ext_get_or 0 ps qs (p.2 ∙ sym q.2)
    (λ i h.
    let found = sym (p.3 i (omega (arith, h, p.2))) ∙ ap (λ (c : List ℕ). find (λ m. m.0 == i) (meetings (each rule) mount c)) same ∙ q.3 i (omega (arith, h, p.2)) in
    ap (λ (m : ℕ × ℕ). m.1) (same_Some (i, get_or ps i 0) (i, get_or qs i 0) found))

entries : (rule mount : Words) (n : ℕ) (before after : List ℕ) → Witness rule mount (take n after) → length after ≡ length before → variables rule ≤ length before
entries rule mount n before after w e = omega (arith, w.2, e, length-take n after)

witnessed-one : (rule mount : Words) (before : List ℕ) (r s : Result (Option ℕ) TooFewEntries) (after other : List ℕ) → Witnessed rule mount before r after → Witnessed rule mount before s other
    → (witness_answer r ≡ witness_answer s) × (after ≡ other)
witnessed-one rule mount before (Err d) (Err e) after other p q = (refl, p.1 ∙ sym q.1)
witnessed-one rule mount before (Err d) (Ok None) after other p q = absurd (omega (arith, p.0, q.0))
witnessed-one rule mount before (Err d) (Ok (Some m)) after other p q = absurd (omega (arith, p.0, entries rule mount m before other q.1 q.3))
witnessed-one rule mount before (Ok None) (Err e) after other p q = absurd (omega (arith, p.0, q.0))
witnessed-one rule mount before (Ok None) (Ok None) after other p q = (refl, p.2 ∙ sym q.2)
witnessed-one rule mount before (Ok None) (Ok (Some m)) after other p q = absurd (p.1 (chooses-covers (each rule) (each mount) q.1.0 q.1.1.0))
witnessed-one rule mount before (Ok (Some n)) (Err e) after other p q = absurd (omega (arith, q.0, entries rule mount n before after p.1 p.3))
witnessed-one rule mount before (Ok (Some n)) (Ok None) after other p q = absurd (q.1 (chooses-covers (each rule) (each mount) p.1.0 p.1.1.0))
witnessed-one rule mount before (Ok (Some n)) (Ok (Some m)) after other p q =
    let same = p.0 ∙ sym q.0 in
    let rest = p.2 ∙ ap (λ (k : ℕ). drop k before) same ∙ sym q.2 in (
      ap answered same,
      sym (take-append-drop n after)
          ∙ ap₂ (λ (a b : List ℕ). a ++ b) (witness-one rule mount (take n after) (take m other) p.1 q.1) rest
          ∙ take-append-drop m other,
    )

pub witness_settled : (rule mount before : List ℕ) → Settled (WitnessCall rule mount before)
witness_settled rule mount before =
    of_both (read_record rule) (read_record mount) before (λ xs ys answer after. WitnessAnswer xs ys answer before after)
    (λ xs ys a b after other p q.
    let one = witnessed-one xs ys before p.0 q.0 after other p.1 q.1 in
    (p.2 ∙ one.0 ∙ sym q.2, one.1))

-- what joining two clauses leaves
abbrev Left : Result (Unit {0}) Refusal → (C : List Word) → (z : Record) → Type 0
Left (Ok _) C z = Tidying C (clause z)
Left (Err e) C z = Beyond C × (e ≡ record { number = 11 })

left : (x y : Record) (r : Result (Unit {0}) Refusal) (z : Record) → Joined records x y r z → Left r (raw (clause x) (clause y)) z
left x y (Ok o) z j = j.2
left x y (Err e) z j = (j.3.0, j.3.1)

written-one : (form before : List ℕ) (v w : Result ℕ NoRoom) (after other : List ℕ) → Wrote form 0 before v after → Wrote form 0 before w other → (write_answer v ≡ write_answer w) × (after ≡ other)
written-one form before (Ok n) (Ok m) after other p q =
    let same = p.0 ∙ sym q.0 in
    (ap answered same, p.2 ∙ ap (λ (k : ℕ). take 0 before ++ (form ++ drop k before)) same ∙ sym q.2)
written-one form before (Ok n) (Err e) after other p q = absurd (omega (arith, p.0, p.1, q.0))
written-one form before (Err d) (Ok m) after other p q = absurd (omega (arith, q.0, q.1, p.0))
written-one form before (Err d) (Err e) after other p q = (refl, p.1 ∙ sym q.1)

packs-one : (C : List Word) (before : List ℕ) (r s : Result (Unit {0}) Refusal) (y z : Record) (a b : Answer) (after other : List ℕ) → Left r C y → Left s C z
    → Packs r (literals y) a before after → Packs s (literals z) b before other → (a ≡ b) × (after ≡ other)
packs-one C before (Ok o) (Ok u) y z a b after other l m p q =
    let same = each-one (literals y) (literals z) (tidying-one C (clause y) (clause z) l m) in
    let moved = subst (λ (ls : Words). Wrote (clause_form ls) 0 before p.0 after) same p.1 in
    let one = written-one (clause_form (literals z)) before p.0 q.0 after other moved q.1 in
    (p.2 ∙ one.0 ∙ sym q.2, one.1)
packs-one C before (Ok o) (Err e) y z a b after other l m p q = absurd (not-both C (clause y) l (laws.inside y) m.0)
packs-one C before (Err d) (Ok u) y z a b after other l m p q = absurd (not-both C (clause z) m (laws.inside z) l.0)
packs-one C before (Err d) (Err e) y z a b after other l m p q =
    (p.0 ∙ ap (λ (f : Refusal). refused f.number) (l.1 ∙ sym m.1) ∙ sym q.0, p.1 ∙ sym q.1)

module _ (xs ys : Words) where
  abbrev C : List Word
  C = raw (each xs) (each ys)

  moved : (x y : Record) (r : Result (Unit {0}) Refusal) (z : Record) → literals x ≡ xs → literals y ≡ ys → Joined records x y r z → Left r C z
  moved x y r z d e j = subst (λ (D : List Word). Left r D z) (ap₂ (λ (us vs : Words). raw (each us) (each vs)) d e) (left x y r z j)

  join-one : (before : List ℕ) → Settled (λ answer after. JoinAnswer xs ys answer before after)
  join-one before a b after other p q =
      packs-one C before p.3 q.3 p.2 q.2 a b after other (moved p.0 p.1 p.3 p.2 p.4 p.5 p.6) (moved q.0 q.1 q.3 q.2 q.4 q.5 q.6) p.7 q.7

pub join_settled : (first second before : List ℕ) → Settled (JoinCall first second before)
join_settled first second before =
    of_both (read_record first) (read_record second) before (λ xs ys answer after. JoinAnswer xs ys answer before after) (λ xs ys. join-one xs ys before)
