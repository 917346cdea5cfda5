-- The listing of an input.
use Rattle.std.specs.Prelude.{◌≡◌, ℕ, zero, suc, ◌+◌, cond, List, [], ◌∷◌, ◌++◌, length, Some, None, Ok, Err, Option, Result, nat_lt}
use Rattle.std.specs.List.{flat_map}
use Rattle.number.specs.declared.fault.NumberFault.{NumberFault}
use Rattle.number.specs.Forms.{form}
use Rattle.number.specs.Reads.{read_number}
use Rattle.listing.specs.Lines.{after, number_line, count_line, fault_line}

-- the text of a listing, and the fault that ended it, if one did
abbrev pub Told : Type 0
Told = List ℕ × Option NumberFault

-- the line of a fault is the last
abbrev pub go_on : (ℕ × ℕ → Told) → Result (ℕ × ℕ) NumberFault → Told
go_on next (Ok p) = next p
go_on next (Err fault) = (fault_line fault, Some fault)

-- the listing from `at` on, after `count` numbers; each turn reads a byte at least, so as many turns as there are bytes will do
unfoldable pub listed_from : (turns : ℕ) → List ℕ → (at count : ℕ) → Told
listed_from zero input at count = (count_line count, None)
listed_from (suc turns) input at count =
    cond (nat_lt at (length input))
    (go_on (λ p. after (number_line at p.0) (listed_from turns input p.1 (count + 1))) (read_number input at))
    (count_line count, None)

unfoldable pub listed : List ℕ → Told
listed input = listed_from (length input) input 0 0

-- the lines of numbers whose forms stand one after the other from `at` on
abbrev pub lines : (at : ℕ) → List ℕ → List ℕ
lines at [] = []
lines at (value ∷ values) = number_line at value ++ lines (at + length (form value)) values

-- how a listing of these values ends, where this rest of the input is left: nothing is left, or no number begins there
abbrev pub Ends : (input values rest text : List ℕ) → Option NumberFault → Type 0
Ends input values rest text None = (rest ≡ []) × (text ≡ lines 0 values ++ count_line (length values))
Ends input values rest text (Some fault) = (read_number input (length (flat_map form values)) ≡ Err fault) × (text ≡ lines 0 values ++ fault_line fault)

-- the listing is true to the input: the forms of the listed numbers, one after the other, are all of it, or all before the fault
pub record Faithful (input : List ℕ) (told : Told) : Type 0 where
  pub values : List ℕ
  pub rest : List ℕ
  pub split : input ≡ flat_map form values ++ rest
  pub ends : Ends input values rest told.0 told.1
