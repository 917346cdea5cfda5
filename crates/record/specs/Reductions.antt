-- What tidying leaves of a clause, and what joining leaves of two records.
use Rattle.std.specs.Prelude.{◌≡◌, List, Ok, Err, Result, Some, None, Option}
use Rattle.class.specs.declared.kind.Refusal.{Refusal}
use Rattle.clauses.specs.Joins.{raw}
use Rattle.clauses.specs.Least.{Within}
use Rattle.clauses.specs.Numbering.{renumbered}
use Rattle.clauses.specs.Reduction.{Tidies}
use Rattle.term.specs.Words.{Word}
use Rattle.record.specs.declared.clause.Record.{Record}
use Rattle.record.specs.Records.{clause}

-- D is what tidying leaves of C, with its variables numbered by their first standing
abbrev pub Tidying : (C D : List Word) → Type 0
Tidying C D = (R : List Word) × Tidies 0 C R × (D ≡ renumbered R)

-- what tidying leaves of C is beyond the limit of 16 literals and 256 nodes
abbrev pub Beyond : (C : List Word) → Type 0
Beyond C = (R : List Word) → Tidies 0 C R → Within R → ⊥

-- the one, as a record, or none, where the other holds
abbrev pub Reduces : (C : List Word) → Option Record → Type 0
Reduces C (Some r) = Tidying C (clause r)
Reduces C None = Beyond C

-- joining x with y leaves their raw clause, tidied; or it is refused with number 11, and x stays
abbrev pub Joining : (x y : Record) → Result (Unit {0}) Refusal → (z : Record) → Type 0
Joining x y (Ok _) z = Tidying (raw (clause x) (clause y)) (clause z)
Joining x y (Err e) z = Beyond (raw (clause x) (clause y)) × (e ≡ record { number = 11 }) × (z ≡ x)
