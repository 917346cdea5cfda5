-- What is in hand between two entries.
use Rattle.std.specs.Prelude.{◌≡◌, ℕ, List, [], ◌∷◌, Some, None, Option}
use Rattle.class.specs.declared.classes.Class.{Class}
use Rattle.class.specs.Runs.{Call, gathers, Run, taken, Law}
use Rattle.place.specs.Places.{meaning, places}
use Rattle.place.specs.declared.placed.PlaceWord.{PlaceWord}
use Rattle.term.specs.Words.{Word}
use Rattle.gathering.specs.Gathered.{Told}

-- a class has taken ms: it began with a place word under the law, and its calls since took the others
pub record Gathering (ms : List Word) (c : Class PlaceWord) : Type 0 where
  pub first : PlaceWord
  pub begun : Class PlaceWord
  pub calls : List (Call PlaceWord)
  pub law : Law places first begun
  pub run : Run places (gathers begun) calls (gathers c)
  pub all : ms ≡ taken places (meaning first ∷ []) calls

-- no class yet, where nothing was taken
abbrev pub Gathers : List Word → Option (Class PlaceWord) → Type 0
Gathers ms None = ms ≡ []
Gathers ms (Some c) = Gathering ms c

-- whatever was taken before, what is in hand after and the line are what is told
abbrev pub Goes : (before : Option (Class PlaceWord)) → (List Word → Told) → (after : Option (Class PlaceWord)) → (line : List ℕ) → Type 0
Goes before told after line = (ms : List Word) → Gathers ms before → Gathers (told ms).1 after × (line ≡ (told ms).0)
