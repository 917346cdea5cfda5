-- Records that were tidied or joined: legibly, and as bytes.
use Rattle.std.specs.Prelude.{◌≡◌, ℕ, ◌/◌, ◌%◌, List, [], ◌∷◌, ◌++◌, ◌+◌, cond, nat_lt, Some, None, Ok, Err, codes, Option, Result, ◌⊎◌}
use Rattle.std.specs.List.{flat_map}
use Rattle.clauses.specs.Clauses.{each}
use Rattle.clauses.specs.Joins.{raw}
use Rattle.record.specs.declared.fault.RecordFault.{RecordFault}
use Rattle.record.specs.Reads.{clause_form}
use Rattle.record.specs.Reductions.{Tidying, Beyond}
use Rattle.term.specs.Words.{Words}
use Rattle.listing.specs.RecordLines.{record_fault_line}
use Rattle.listing.specs.Shown.{shown_clause}

-- bytes in hexadecimal: two digits each, the higher first
abbrev pub hex_digit : ℕ → ℕ
hex_digit d = cond (nat_lt d 10) (48 + d) (87 + d)

unfoldable pub hex : List ℕ → List ℕ
hex bytes = flat_map (λ b. hex_digit (b / 16) ∷ (hex_digit (b % 16) ∷ [])) bytes

-- a clause, and its packed form
abbrev pub both_forms : Words → List ℕ
both_forms ls = shown_clause ls ++ (codes "\n" ++ (hex (clause_form ls) ++ codes "\n"))

-- the record of an input, tidied; or the line of its fault
abbrev pub TidiedFrom : Result Words RecordFault → (text : List ℕ) → Option RecordFault → Type 0
TidiedFrom (Ok r) text fault = ((ls : Words) × Tidying (each r) (each ls) × (text ≡ both_forms ls)) × (fault ≡ None)
TidiedFrom (Err f) text fault = (text ≡ record_fault_line f) × (fault ≡ Some f)

-- the join of two, or that it is refused
abbrev pub JoinTold : (first second : Words) → (text : List ℕ) → Type 0
JoinTold r s text =
    ((ls : Words) × Tidying (raw (each r) (each s)) (each ls) × (text ≡ both_forms ls))
    ⊎ (Beyond (raw (each r) (each s)) × (text ≡ codes "refused 11\n"))

-- the records of two inputs, joined; or the line of the first fault, and which of the two has it
abbrev pub JoinedFrom : (first second : Result Words RecordFault) → (text : List ℕ) → Option RecordFault → Type 0
JoinedFrom (Err f) s text fault = (text ≡ codes "first: " ++ record_fault_line f) × (fault ≡ Some f)
JoinedFrom (Ok r) (Err f) text fault = (text ≡ codes "second: " ++ record_fault_line f) × (fault ≡ Some f)
JoinedFrom (Ok r) (Ok s) text fault = JoinTold r s text × (fault ≡ None)
