-- The packed form of place words, and their reading.
use Rattle.std.specs.Prelude.{◌≡◌, ℕ, cond, List, [], length, Ok, Err, Result, ◌≢◌, nat_lt}
use Rattle.term.specs.Coding.{code}
use Rattle.term.specs.declared.node.Node.{Node}
use Rattle.word.specs.Becomes.{Becomes}
use Rattle.word.specs.Packed.{packed}
use Rattle.word.specs.Reads.{read_words}
use Rattle.word.specs.Then.{then}
use Rattle.place.specs.declared.fault.PlaceFault.{PlaceFault}
use Rattle.place.specs.declared.fault.PlaceFault.TheVariants.{Word, Left}
use Rattle.place.specs.declared.placed.PlaceWord.{PlaceWord}
use Rattle.place.specs.Places.{meaning}

-- the packed form: that of its nodes
abbrev pub place_form : PlaceWord → List ℕ
place_form p = packed (code (meaning p))

-- one word of at most 64 nodes, and the input used up: its nodes, or the fault
unfoldable pub read_place : List ℕ → Result (List Node) PlaceFault
read_place input = then Word (read_words 1 64 0 input 0 []) (λ p. cond (nat_lt p.1 (length input)) (Err (Left p.1)) (Ok p.0))

-- the answer is what the definition gives; the place word is the one read, or after a fault the one before
abbrev pub Reads : Result (List Node) PlaceFault → (before : PlaceWord) → Result (Unit {0}) PlaceFault → (after : PlaceWord) → Type 0
Reads = Becomes (λ p. code (meaning p))

-- the input was the form of the place word read, so it is written back as the same bytes; or it is the form of none
abbrev pub Exactly : List ℕ → Result (Unit {0}) PlaceFault → (after : PlaceWord) → Type 0
Exactly input (Ok _) after = place_form after ≡ input
Exactly input (Err _) after = (p : PlaceWord) → place_form p ≢ input
