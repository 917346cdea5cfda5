-- An input has no two texts.
use Rattle.std.proofs.Common.{◌≡◌, ℕ, zero, suc, Bool, true, false, List, ◌∷◌, ◌++◌, ltb, leb, length, Some, None, Ok, Err, Option, Result, sym, refl, ap, ◌∙◌, subst, ap₂, codes, inl, inr, arith}
use Rattle.std.specs.List.{between, flat_map}
use Rattle.class.specs.Calls.{Admitted}
use Rattle.class.specs.declared.classes.Class.{Class}
use Rattle.class.specs.declared.kind.Refusal.{Refusal}
use Rattle.clauses.specs.Clauses.{Covers, each}
use Rattle.clauses.specs.Joins.{raw}
use Rattle.clauses.specs.Least.{Within}
use Rattle.clauses.specs.Numbering.{renumbered}
use Rattle.clauses.proofs.Numberings.{length-renumbered, size-renumbered}
use Rattle.clauses.proofs.Reductions.{tidies-one}
use Rattle.entries.specs.Entries.{entry_at}
use Rattle.number.specs.declared.fault.NumberFault.{NumberFault}
use Rattle.record.specs.Kind.{records, laws}
use Rattle.record.specs.Reads.{clause_form, read_record}
use Rattle.record.specs.Records.{literals, clause}
use Rattle.record.specs.Reductions.{Tidying, Beyond}
use Rattle.record.specs.declared.clause.Record.{Record}
use Rattle.record.specs.declared.fault.RecordFault.{RecordFault}
use Rattle.listing.specs.Reduced.{hex}
use Rattle.term.specs.Words.{Word, Words, nil, cons}
use Rattle.session.specs.Answers.{OneText}
use Rattle.session.specs.Lines.{line_text, admitted, rule_line}
use Rattle.session.specs.Sessions.{Met, in_hand, Takes, Turn, Leads, Ended, Onward, Either, Entries, Tells}
use Rattle.session.specs.declared.lines.Line.{Line}
use Rattle.session.specs.declared.lines.Line.TheVariants.{Taken, Refused}

-- tidying has one result
pub tidying-one : (C D E : List Word) → Tidying C D → Tidying C E → D ≡ E
tidying-one C D E p q = p.2 ∙ ap renumbered (tidies-one p.1 q.1) ∙ sym q.2

-- what becomes of a rule and a record, as clauses: it stays, it is joined, or it stays since that is beyond the limit
data Outcome (Q X : List Word) (line : Line) (D : List Word) : Type 0 where
  stays : Covers Q X → D ≡ Q → line ≡ Taken → Outcome Q X line D
  joins : (Covers Q X → ⊥) → Tidying (raw Q X) D → Within D → line ≡ Taken → Outcome Q X line D
  refuses : (Covers Q X → ⊥) → Beyond (raw Q X) → D ≡ Q → line ≡ Refused 11 → Outcome Q X line D

outcome : (c : Class Record) (x : Record) (answer : Result (Unit {0}) Refusal) (d : Class Record) → Admitted records c x answer d → Outcome (clause c.rule) (clause x) (admitted answer) (clause d.rule)
outcome c x (Ok o) d (inl w, n) = stays w.0 (ap clause w.1) refl
outcome c x (Ok o) d (inr w, n) = joins w.0 w.1.2 (laws.inside d.rule) refl
outcome c x (Err e) d a = refuses a.0 a.1.3.0 (ap clause a.1.2) (ap (λ (r : Refusal). Refused r.number) a.1.1)

-- what is joined is not beyond the limit
pub not-both : (C D : List Word) → Tidying C D → Within D → Beyond C → ⊥
not-both C D t w b =
    let R = t.0 in
    let n = subst (λ (l : List Word). Within l) t.2 w in
    b R t.1 (omega (arith, n.0, length-renumbered R), omega (arith, n.1, size-renumbered R))

outcome-one : (Q X : List Word) (k l : Line) (D E : List Word) → Outcome Q X k D → Outcome Q X l E → (k ≡ l) × (D ≡ E)
outcome-one Q X k l D E (stays c d e) (stays f g h) = (e ∙ sym h, d ∙ sym g)
outcome-one Q X k l D E (stays c d e) (joins n t w h) = absurd (n c)
outcome-one Q X k l D E (stays c d e) (refuses n b g h) = absurd (n c)
outcome-one Q X k l D E (joins n t w e) (stays f g h) = absurd (n f)
outcome-one Q X k l D E (joins n t w e) (joins m u v h) = (e ∙ sym h, tidying-one (raw Q X) D E t u)
outcome-one Q X k l D E (joins n t w e) (refuses m b g h) = absurd (not-both (raw Q X) D t w b)
outcome-one Q X k l D E (refuses n b d e) (stays f g h) = absurd (n f)
outcome-one Q X k l D E (refuses n b d e) (joins m u v h) = absurd (not-both (raw Q X) E u v b)
outcome-one Q X k l D E (refuses n b d e) (refuses m a g h) = (e ∙ sym h, d ∙ sym g)

-- the same rule is in hand
abbrev Same : Option Met → Option Met → Type 0
Same None None = Unit {0}
Same None (Some m) = ⊥
Same (Some l) None = ⊥
Same (Some l) (Some m) = clause l.class.rule ≡ clause m.class.rule

takes-one : (k l m n : Option Met) (x y : Record) (i j : Line) → Same k l → clause x ≡ clause y → Takes k x i m → Takes l y j n → (i ≡ j) × Same m n
takes-one None None None n x y i j s e t u = absurd t
takes-one None None (Some m) None x y i j s e t u = absurd u
takes-one None None (Some m) (Some n) x y i j s e t u =
    (t.3 ∙ sym u.3, tidying-one (clause y) (clause m.class.rule) (clause n.class.rule) (subst (λ (C : List Word). Tidying C (clause m.class.rule)) e t.2.rule.value) u.2.rule.value)
takes-one None (Some l) m n x y i j s e t u = absurd s
takes-one (Some k) None m n x y i j s e t u = absurd s
takes-one (Some k) (Some l) None n x y i j s e t u = absurd t
takes-one (Some k) (Some l) (Some m) None x y i j s e t u = absurd u
takes-one (Some k) (Some l) (Some m) (Some n) x y i j s e t u =
    let one = outcome k.class x t.0 m.class t.1 in
    let other = outcome l.class y u.0 n.class u.1 in
    let moved = subst (λ (C : List Word). Outcome (clause l.class.rule) C (admitted t.0) (clause m.class.rule)) e
    (subst (λ (C : List Word). Outcome C (clause x) (admitted t.0) (clause m.class.rule)) s one) in
    let same = outcome-one (clause l.class.rule) (clause y) (admitted t.0) (admitted u.0) (clause m.class.rule) (clause n.class.rule) moved other in
    (t.4 ∙ same.0 ∙ sym u.4, same.1)

turn-one : (start : ℕ) (r : Result Words RecordFault) (k l m n : Option Met) (i j : Line) → Same k l → Turn start r k i m → Turn start r l j n → (i ≡ j) × Same m n
turn-one start (Ok ls) k l m n i j s t u = takes-one k l m n t.0 u.0 i j s (ap each (t.1 ∙ sym u.1)) t.2 u.2
turn-one start (Err fault) k l m n i j s t u = (t.0 ∙ sym u.0, subst (λ (p : Option Met). Same p n) (sym t.1) (subst (Same k) (sym u.1) s))

abbrev Once : Leads → Type 0
Once one = (k l m n : Option Met) (is js : List Line) → Same k l → one k is m → one l js n → (is ≡ js) × Same m n

once-ended : Once Ended
once-ended k l m n is js s t u = (t.0 ∙ sym u.0, subst (λ (p : Option Met). Same p n) (sym t.1) (subst (Same k) (sym u.1) s))

once-onward : (input : List ℕ) (r : Result (ℕ × ℕ) NumberFault) (others : (at : ℕ) → Leads) → ((at : ℕ) → Once (others at)) → Once (Onward input r others)
once-onward input (Ok p) others o k l m n is js s t u =
    let here = turn-one p.0 (read_record (between p.0 p.1 input)) k l t.1 u.1 t.0 u.0 s t.3 u.3 in
    let rest = o p.1 t.1 u.1 m n t.2 u.2 here.1 t.4 u.4 in
    (t.5 ∙ ap₂ (λ (a : Line) (b : List Line). a ∷ b) here.0 rest.0 ∙ sym u.5, rest.1)
once-onward input (Err fault) others o k l m n is js s t u = (t.0 ∙ sym u.0, subst (λ (p : Option Met). Same p n) (sym t.1) (subst (Same k) (sym u.1) s))

once-either : (b : Bool) (one other : Leads) → Once one → Once other → Once (Either b one other)
once-either true one other k j = k
once-either false one other k j = j

once-entries : (turns : ℕ) (input : List ℕ) (at : ℕ) → Once (Entries turns input at)
unfolding Entries
once-entries zero input at = once-ended
once-entries (suc turns) input at =
    once-either (ltb at (length input)) (Onward input (entry_at input at) (Entries turns input)) Ended
    (once-onward input (entry_at input at) (Entries turns input) (once-entries turns input)) once-ended

-- literals one after the other are the same where they are the same as lists
pub each-one : (us vs : Words) → each us ≡ each vs → us ≡ vs
each-one nil nil e = refl
each-one nil (cons v vs) e = let z : ◌≡◌ {A = ℕ} 0 (suc (length (each vs))) = ap length e in absurd (omega arith)
each-one (cons u us) nil e = let z : ◌≡◌ {A = ℕ} (suc (length (each us))) 0 = ap length e in absurd (omega arith)
each-one (cons u us) (cons v vs) e =
    let h : u ≡ v = cc in
    let t : each us ≡ each vs = cc in
    ap₂ cons h (each-one us vs t)

-- so the last line is the same
rule-one : (m n : Option Met) → Same m n → rule_line (in_hand m) ≡ rule_line (in_hand n)
unfolding rule_line
rule-one None None s = refl
rule-one None (Some n) s = absurd s
rule-one (Some m) None s = absurd s
rule-one (Some m) (Some n) s = ap (λ (ls : Words). codes "rule " ++ (hex (clause_form ls) ++ codes "\n")) (each-one (literals m.class.rule) (literals n.class.rule) s)

tells-one : (b : Bool) (input text other : List ℕ) → Tells input text b → Tells input other b → other ≡ text
tells-one true input text other t u =
    let same = once-entries (length input) input 0 None None u.1 t.1 u.0 t.0 tt u.2 t.2 in
    u.3 ∙ ap₂ (λ (l : List Line) (r : List ℕ). flat_map line_text l ++ r) same.0 (rule-one u.1 t.1 same.1) ∙ sym t.3
tells-one false input text other t u = u ∙ sym t

pub one-text : (input : List ℕ) → OneText input
one-text input text other t u = tells-one (leb (length input) 4096) input text other t u
