-- What each fault tells: the number of the question that was answered with no, a byte, what was being read,
-- and what is wrong, in words.
use Rattle.std.specs.Prelude.{ℕ, List, [], ◌∷◌, ◌++◌, codes}
use Rattle.word.specs.Faults as words
use Rattle.word.specs.declared.fault.Layer.{Layer}
use Rattle.word.specs.declared.fault.Layer.TheVariants.{PlaceWord}
use Rattle.word.specs.declared.fault.WordFault.TheVariants.{Nodes}
use Rattle.place.specs.declared.fault.PlaceFault.{PlaceFault}
use Rattle.place.specs.declared.fault.PlaceFault.TheVariants.{Word, Left}

-- a word's fault tells what it told, and the place word above it; no literal was in hand
-- 9, is the input used up? tells the first byte left over
abbrev pub told : PlaceFault → ℕ × ℕ × List Layer
told (Word fault) = ((words.told fault).0, (words.told fault).1, (words.told fault).2 ++ (PlaceWord ∷ []))
told (Left first) = (9, first, PlaceWord ∷ [])

-- what is wrong, in words; a word's fault says it in its own, but for the limit, which is that of a place word here
abbrev pub sentence : PlaceFault → List ℕ
sentence (Word (Nodes _)) = codes "the word has more than 64 nodes"
sentence (Word fault) = words.sentence fault
sentence (Left _) = codes "bytes are left over"
