-- The rule of a class of records is smallest, and settled by what was taken.
use Rattle.std.proofs.Common.{List, [], ◌∷◌, map, All, Contains, inl, inr, subst}
use Rattle.std.proofs.lemmas.List.Elements.{All-head, All-tail}
use Rattle.class.specs.declared.classes.Class.{Class}
use Rattle.class.specs.Calls.{Begun}
use Rattle.class.specs.Kinds.{Over}
use Rattle.class.specs.Runs.{rule, taken, Holds, State}
use Rattle.class.proofs.Lawful.{law}
use Rattle.clauses.specs.Clauses.{Covers}
use Rattle.clauses.proofs.Parts.{contains-none, contains-cases}
use Rattle.clauses.proofs.Smallest.{tidy-fewest, tidy-smallest}
use Rattle.clauses.proofs.Variations.{tidy-variants}
use Rattle.term.specs.Words.{Word}
use Rattle.record.specs.declared.clause.Record.{Record}
use Rattle.record.specs.Kind.{AnyClause, records, laws}
use Rattle.record.specs.Records.{clause}
use Rattle.generaliser.specs.Law.{Smallest, Settled, RecordLaw}

abbrev bare : List AnyClause → List (List Word)
bare ms = map (λ m. m.0) ms

-- what covers each of some clauses covers each of them by itself
over-each : (C : AnyClause) (ms : List AnyClause) → Over records C ms → (D : List Word) → Contains (bare ms) D → Covers C.0 D
over-each C [] o D c = absurd (contains-none D c)
over-each C (m ∷ ms) o D c = elim (contains-cases m.0 D (bare ms) c) [ inl e ↦ subst (Covers C.0) e o.0 | inr d ↦ over-each C ms o.1 D d ]

over-same : (C : AnyClause) (ms : List AnyClause) → Over records C ms → (ns : List AnyClause) → All (Contains (bare ms)) (bare ns) → Over records C ns
over-same C ms o [] h = tt
over-same C ms o (n ∷ ns) h =
    (over-each C ms o n.0 (All-head (Contains (bare ms)) n.0 (bare ns) h), over-same C ms o ns (All-tail (Contains (bare ms)) n.0 (bare ns) h))

module _ (ms : List AnyClause) (s : State Record) (H : Holds records ms s) where
  smallest : Smallest ms (rule s)
  smallest C l =
      let down = l.below (records.means (rule s)) H.least.over in
      let up = H.least.below C l.over in
      (tidy-fewest (clause (rule s)) C.0 H.tidy down up, tidy-smallest (clause (rule s)) C.0 H.tidy down up)

  settled : Settled ms (rule s)
  settled first c calls t b w same =
      let ns = taken records (records.means first ∷ []) calls in
      let G = (law records laws first c b calls t w).1 in
      tidy-variants (clause (rule s)) (clause (rule t)) H.tidy G.tidy
      (G.least.below (records.means (rule s)) (over-same (records.means (rule s)) ms H.least.over ns same.1))
      (H.least.below (records.means (rule t)) (over-same (records.means (rule t)) ns G.least.over ms same.0))

pub whole : (first : Record) (c : Class Record) → Begun records first c → RecordLaw first c
whole first c b calls s w =
    let h = law records laws first c b calls s w in
    let ms = taken records (records.means first ∷ []) calls in
    record { answered = h.0; holds = h.1; smallest = smallest ms s h.1; settled = settled ms s h.1 }
