-- The lines of a listing.
use Rattle.std.specs.Prelude.{ℕ, List, ◌++◌, codes, decimal}
use Rattle.number.specs.Faults.{told, sentence}
use Rattle.number.specs.declared.fault.NumberFault.{NumberFault}

-- a line before the text of what is told
abbrev pub after : {X : Type 0} → List ℕ → List ℕ × X → List ℕ × X
after line told = (line ++ told.0, told.1)

-- a number, by its place and its value
unfoldable pub number_line : (at value : ℕ) → List ℕ
number_line at value = codes "at " ++ (decimal at ++ (codes ": " ++ (decimal value ++ codes "\n")))

-- how many numbers were read
unfoldable pub count_line : ℕ → List ℕ
count_line count = codes "numbers read: " ++ (decimal count ++ codes "\n")

-- a fault, by its question and its byte
unfoldable pub fault_line : NumberFault → List ℕ
fault_line fault = codes "fault " ++ (decimal (told fault).0 ++ (codes " at byte " ++ (decimal (told fault).1 ++ (codes ": " ++ (sentence fault ++ codes "\n")))))
