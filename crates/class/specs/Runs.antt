-- The law over whole runs.
use Rattle.std.specs.Prelude.{◌≡◌, ℕ, min, Bool, List, [], ◌∷◌, length, Ok, Err, Decides, Result}
use Rattle.class.specs.declared.classes.Class.{Class}
use Rattle.class.specs.declared.classes.Issued.{Issued}
use Rattle.class.specs.declared.kind.Refusal.{Refusal}
use Rattle.class.specs.Kinds.{Subject, Covers, Over, Least, Held}
use Rattle.class.specs.Calls.{Admitted, Kept}

-- a call with its answer
pub data Call (Thing : Type 0) : Type 0 where
  admit : Thing → Result (Unit {0}) Refusal → Call Thing
  fits : Thing → Bool → Call Thing
  issue : Call Thing

-- a class that gathers, or one that was issued
pub data State (Thing : Type 0) : Type 0 where
  gathers : Class Thing → State Thing
  issued : Issued Thing → State Thing

abbrev pub rule : {Thing : Type 0} → State Thing → Thing
rule (gathers c) = c.rule
rule (issued i) = i.class.rule

abbrev pub count : {Thing : Type 0} → State Thing → ℕ
count (gathers c) = c.count
count (issued i) = i.class.count

module _ {Thing : Type 0} (k : Subject Thing) where
  -- one call, as its contract has it; an issued class meets no admit and no issue
  abbrev pub Step : State Thing → Call Thing → State Thing → Type 0
  Step (gathers c) (admit x r) (gathers d) = Admitted k c x r d
  Step (gathers c) (admit x r) (issued i) = ⊥
  Step (gathers c) (fits x b) s = Decides b (Covers k c.rule x) × (s ≡ gathers c)
  Step (gathers c) issue (gathers d) = ⊥
  Step (gathers c) issue (issued i) = Kept c i
  Step (issued i) (admit x r) s = ⊥
  Step (issued i) (fits x b) s = Decides b (Covers k i.class.rule x) × (s ≡ issued i)
  Step (issued i) issue s = ⊥

  -- calls one after the other
  abbrev pub Run : State Thing → List (Call Thing) → State Thing → Type 0
  Run s [] t = t ≡ s
  Run s (a ∷ calls) t = (u : State Thing) × Step s a u × Run u calls t

  -- what is taken after a call, the latest first, where ms were taken before
  abbrev pub took : List k.member → Call Thing → List k.member
  took ms (admit x (Ok _)) = k.means x ∷ ms
  took ms (admit x (Err e)) = ms
  took ms (fits x b) = ms
  took ms issue = ms

  abbrev pub taken : List k.member → List (Call Thing) → List k.member
  taken ms [] = ms
  taken ms (a ∷ calls) = taken (took ms a) calls

  -- every member, of any size, that covers all of ms covers x
  abbrev pub Shared : List k.member → Thing → Type 0
  Shared ms x = (l : k.member) → Over k l ms → k.above l (k.means x)

  -- the right answer where ms were taken: admit rejects exactly when no member within the limit is least over these and x,
  -- and fits says yes exactly when what covers all of them covers the mount
  abbrev pub Right : List k.member → Call Thing → Type 0
  Right ms (admit x (Ok _)) = Held k (k.means x ∷ ms)
  Right ms (admit x (Err e)) = Held k (k.means x ∷ ms) → ⊥
  Right ms (fits x b) = Decides b (Shared ms x)
  Right ms issue = Unit {0}

  -- each answer is right where it was given
  abbrev pub Answered : List k.member → List (Call Thing) → Type 0
  Answered ms [] = Unit {0}
  Answered ms (a ∷ calls) = Right ms a × Answered (took ms a) calls

  -- the rule is tidy and least over what was taken, and the count is how many that are, up to its ceiling
  pub record Holds (ms : List k.member) (s : State Thing) : Type 0 where
    pub least : Least k (k.means (rule s)) ms
    pub tidy : k.tidy (rule s)
    pub counted : count s ≡ min (length ms) 4294967295

  -- the law of a class that began with x: whatever calls follow, each answer is right, and after them the class holds
  -- the rule of what was taken
  abbrev pub Law : Thing → Class Thing → Type 0
  Law x c = (calls : List (Call Thing)) (s : State Thing) → Run (gathers c) calls s
      → Answered (k.means x ∷ []) calls × Holds (taken (k.means x ∷ []) calls) s
