-- What each fault tells: the number of the question that was answered with no, a byte, and what was being read, from where
-- the fault arose upward, each once; and what is wrong, in words.
use Rattle.std.specs.Prelude.{ℕ, List, [], ◌∷◌, codes}
use Rattle.number.specs.Faults as numbers
use Rattle.word.specs.declared.fault.Layer.{Layer}
use Rattle.word.specs.declared.fault.Layer.TheVariants as layer
use Rattle.word.specs.declared.fault.WordFault.{WordFault}
use Rattle.word.specs.declared.fault.WordFault.TheVariants.{Number, Places, Nodes, Order}

-- a number's fault tells its own question and byte, and arose in a number of a word
-- 5, are there at most 8 places? tells the first byte of their count
-- 6, is this node within the limit? tells the node's first byte
-- 7, is the variable seen before, or the next unused one? tells its first byte
abbrev pub told : WordFault → ℕ × ℕ × List Layer
told (Number fault) = ((numbers.told fault).0, (numbers.told fault).1, layer.Number ∷ (layer.Word ∷ []))
told (Places first) = (5, first, layer.Word ∷ [])
told (Nodes first) = (6, first, layer.Word ∷ [])
told (Order first) = (7, first, layer.Word ∷ [])

-- the name of what was being read
abbrev pub layer_name : Layer → List ℕ
layer_name layer.Number = codes "number"
layer_name layer.Word = codes "word"
layer_name layer.PlaceWord = codes "place word"
layer_name layer.Literal = codes "literal"
layer_name layer.Record = codes "record"

-- what is wrong, in words; a number's fault says it in its own
abbrev pub sentence : WordFault → List ℕ
sentence (Number fault) = numbers.sentence fault
sentence (Places _) = codes "a symbol has more than 8 places"
sentence (Nodes _) = codes "there are more nodes than the limit (64 in a place word, 256 in a record)"
sentence (Order _) = codes "a variable is not the next unused one"
