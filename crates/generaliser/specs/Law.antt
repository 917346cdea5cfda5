-- The law of a class of records, whole.
use Rattle.std.specs.Prelude.{◌≤◌, List, [], ◌∷◌, length, map, All, Contains, sum_by}
use Rattle.class.specs.declared.classes.Class.{Class}
use Rattle.class.specs.Calls.{Begun}
use Rattle.class.specs.Kinds.{Least}
use Rattle.class.specs.Runs.{Call, State, gathers, rule, Run, taken, Answered, Holds}
use Rattle.clauses.specs.Variants.{Variant}
use Rattle.term.specs.Words.{size}
use Rattle.record.specs.declared.clause.Record.{Record}
use Rattle.record.specs.Kind.{AnyClause, records}
use Rattle.record.specs.Records.{clause}

-- every clause that is least over those taken has at least as many literals, and at least as many nodes, as the rule
abbrev pub Smallest : (ms : List AnyClause) → (rule : Record) → Type 0
Smallest ms rule = (C : AnyClause) → Least records C ms → (length (clause rule) ≤ length C.0) × (sum_by size (clause rule) ≤ sum_by size C.0)

-- the same clauses were taken, in whatever order and however often
abbrev pub SameTaken : (ms ns : List AnyClause) → Type 0
SameTaken ms ns = All (Contains (map (λ n. n.0) ns)) (map (λ m. m.0) ms) × All (Contains (map (λ m. m.0) ms)) (map (λ n. n.0) ns)

-- any class that took the same clauses holds the same rule, but for the names of its variables
abbrev pub Settled : (ms : List AnyClause) → (rule : Record) → Type 0
Settled ms r =
    (first : Record) (c : Class Record) (calls : List (Call Record)) (s : State Record)
    → Begun records first c → Run records (gathers c) calls s
    → SameTaken ms (taken records (records.means first ∷ []) calls) → Variant (clause r) (clause (rule s))

-- what holds where a class began with this record and met these calls:
pub record Lawful (first : Record) (calls : List (Call Record)) (s : State Record) : Type 0 where
  -- each answer is right: fits says yes exactly when every clause, of any size, that covers all records taken covers the
  -- mount; admit rejects exactly when no clause of at most 16 literals and 256 nodes is least over those taken and the new one
  pub answered : Answered records (records.means first ∷ []) calls
  -- the rule is tidy and least over the records taken, among clauses of any size, and the count is how many they are
  pub holds : Holds records (taken records (records.means first ∷ []) calls) s
  pub smallest : Smallest (taken records (records.means first ∷ []) calls) (rule s)
  pub settled : Settled (taken records (records.means first ∷ []) calls) (rule s)

-- the law of a class that began with this record, whatever calls of admit, fits and issue follow
abbrev pub RecordLaw : Record → Class Record → Type 0
RecordLaw first c = (calls : List (Call Record)) (s : State Record) → Run records (gathers c) calls s → Lawful first calls s
