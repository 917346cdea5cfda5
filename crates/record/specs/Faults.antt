-- What each fault tells: the number of the question that was answered with no, a byte, the literal in hand, what was
-- being read, and what is wrong, in words.
use Rattle.std.specs.Prelude.{ℕ, List, [], ◌∷◌, ◌++◌, Some, None, codes, Option}
use Rattle.number.specs.Faults as numbers
use Rattle.word.specs.Faults as words
use Rattle.word.specs.declared.fault.Layer.{Layer}
use Rattle.word.specs.declared.fault.Layer.TheVariants as layer
use Rattle.word.specs.declared.fault.WordFault.TheVariants.{Nodes as WordNodes}
use Rattle.record.specs.declared.fault.LiteralFault.{LiteralFault}
use Rattle.record.specs.declared.fault.LiteralFault.TheVariants.{Number as InNumber, Word, Places, Nodes, Repeated}
use Rattle.record.specs.declared.fault.RecordFault.{RecordFault}
use Rattle.record.specs.declared.fault.RecordFault.TheVariants.{Number, Literals, Literal, Left}

-- a number's fault and a word's tell their own question and byte, and the layers above them
-- 5, are there at most 8 places? tells the first byte of their count
-- 6, is the predicate's node within the limit of 256? tells its first byte
-- 8, does the finished literal differ from all before it? tells its first byte
abbrev pub literal_told : LiteralFault → ℕ × ℕ × List Layer
literal_told (InNumber fault) = ((numbers.told fault).0, (numbers.told fault).1, layer.Number ∷ (layer.Literal ∷ (layer.Record ∷ [])))
literal_told (Word fault) = ((words.told fault).0, (words.told fault).1, (words.told fault).2 ++ (layer.Literal ∷ (layer.Record ∷ [])))
literal_told (Places first) = (5, first, layer.Literal ∷ (layer.Record ∷ []))
literal_told (Nodes first) = (6, first, layer.Literal ∷ (layer.Record ∷ []))
literal_told (Repeated first) = (8, first, layer.Literal ∷ (layer.Record ∷ []))

-- a fault of the count of literals tells the number's question and byte; no literal is in hand
-- 4, are there at most 16 literals? tells the first byte of their count; no literal is in hand
-- a literal's fault tells its question and layers, and the byte and the literal that stand beside it
-- 9, is the input used up? tells the first byte left over; no literal is in hand
abbrev pub told : RecordFault → ℕ × ℕ × Option ℕ × List Layer
told (Number fault) = ((numbers.told fault).0, (numbers.told fault).1, None, layer.Number ∷ (layer.Record ∷ []))
told (Literals first) = (4, first, None, layer.Record ∷ [])
told (Literal place) = ((literal_told place.fault).0, place.byte, Some place.literal, (literal_told place.fault).2)
told (Left first) = (9, first, None, layer.Record ∷ [])

-- what is wrong, in words; a number's fault and a word's say it in their own, but for the limit, which is that of a record here
abbrev pub literal_sentence : LiteralFault → List ℕ
literal_sentence (InNumber fault) = numbers.sentence fault
literal_sentence (Word (WordNodes _)) = codes "the record has more than 256 nodes"
literal_sentence (Word fault) = words.sentence fault
literal_sentence (Places _) = codes "a predicate has more than 8 places"
literal_sentence (Nodes _) = codes "the record has more than 256 nodes"
literal_sentence (Repeated _) = codes "the literal repeats an earlier one"

abbrev pub sentence : RecordFault → List ℕ
sentence (Number fault) = numbers.sentence fault
sentence (Literals _) = codes "there are more than 16 literals"
sentence (Literal place) = literal_sentence place.fault
sentence (Left _) = codes "bytes are left over"
