-- The line of a fault that has layers, and the listing of one thing.
use Rattle.std.specs.Prelude.{ℕ, List, ◌++◌, Some, None, Ok, Err, codes, decimal, Option, Result}
use Rattle.word.specs.declared.fault.Layer.{Layer}
use Rattle.word.specs.Faults.{layer_name}
use Rattle.listing.specs.Shown.{separated}

-- with a comma between two
abbrev pub layer_names : List Layer → List ℕ
layer_names ls = separated layer_name 0 ls

-- the literal in hand, if there is one
abbrev pub literal_part : Option ℕ → List ℕ
literal_part None = codes ""
literal_part (Some k) = codes " of literal " ++ decimal k

-- a fault, by what it tells: its question, its byte, the literal in hand and its layers; and by what is wrong, in words
unfoldable pub layered_line : ℕ × ℕ × Option ℕ × List Layer → (why : List ℕ) → List ℕ
layered_line told why =
    codes "fault " ++ (decimal told.0 ++ (codes " at byte " ++ (decimal told.1 ++ (literal_part told.2 ++ (codes " in " ++ (layer_names told.3 ++ (codes ": " ++ (why ++ codes "\n"))))))))

-- the text of what was read, or the line of the fault; and the fault, if there is one
abbrev pub told_of : {X F : Type 0} → (show : X → List ℕ) → (line : F → List ℕ) → Result X F → List ℕ × Option F
told_of show line (Ok x) = (show x ++ codes "\n", None)
told_of show line (Err fault) = (line fault, Some fault)
