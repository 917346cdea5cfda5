-- The steps to the first choice.
use Rattle.std.specs.Prelude.{◌≡◌, ℕ, ◌<◌, ◌≤◌, List, length, take, slice_index, Option, All}
use Rattle.term.specs.Words.{Word}
use Rattle.term.specs.declared.node.Node.{Node}
use Rattle.clauses.specs.Clauses.{literals_at}
use Rattle.subsume.specs.declared.bits.BitSet.{BitSet}
use Rattle.subsume.specs.Choices.{Among, Picked}
use Rattle.subsume.specs.FirstChoices.{Chooses, NoLater}

-- the choice begins with these
abbrev pub Begins : (front choice : List ℕ) → Type 0
Begins front choice = take (length front) choice ≡ front

-- of the choices that work and begin with these there is none; or this one is the first
abbrev pub NoneFrom : (rule mount : List Word) → (front : List ℕ) → Type 0
NoneFrom rule mount front = (choice : List ℕ) → Chooses rule mount choice → Begins front choice → ⊥

abbrev pub FirstFrom : (rule mount : List Word) → (front choice : List ℕ) → Type 0
FirstFrom rule mount front choice =
    Chooses rule mount choice × Begins front choice × ((other : List ℕ) → Chooses rule mount other → Begins front other → NoLater choice other)

-- the choices for the first literals are these, and each choice that works and begins with them is left
pub record Begun (N : List Node) (S : List ℕ) (M : List Node) (T : List ℕ) (front : List ℕ) (sets : List (BitSet 4)) (picks : List (Option ℕ)) : Type 0 where
  pub few : length front ≤ length S
  pub inside : All (λ j. j < length T) front
  pub left : (choice : List ℕ) → Chooses (literals_at N S) (literals_at M T) choice → Begins front choice → Among sets (length S) (length T) (slice_index choice)
  pub picked : Picked sets (length S) (length T) picks
