-- Reading a number: the questions, group by group, in the order in which they are asked.
use Rattle.std.specs.Prelude.{ℕ, ◌+◌, ◌*◌, ◌%◌, ◌<◌, ◌≤◌, cond, List, [], ◌∷◌, length, drop, Ok, Err, Result, ◌==◌, nat_lt}
use Rattle.std.specs.List.{between}
use Rattle.number.specs.declared.fault.NumberFault.{NumberFault}
use Rattle.number.specs.declared.fault.NumberFault.TheVariants.{Missing, TooLarge, Padded}
use Rattle.number.specs.Forms.{Form}

abbrev pub third : (low middle : ℕ) → List ℕ → (at end : ℕ) → Result (ℕ × ℕ) NumberFault
third low middle [] at end = Err (Missing end)
third low middle (high ∷ rest) at end =
    cond (nat_lt high 4) (cond (high == 0) (Err (Padded at)) (Ok (low % 128 + 128 * (middle % 128) + 16384 * high, at + 3))) (Err (TooLarge at))

abbrev pub second : (low : ℕ) → List ℕ → (at end : ℕ) → Result (ℕ × ℕ) NumberFault
second low [] at end = Err (Missing end)
second low (middle ∷ rest) at end =
    cond (nat_lt middle 128) (cond (middle == 0) (Err (Padded at)) (Ok (low % 128 + 128 * middle, at + 2))) (third low middle rest at end)

abbrev pub first : List ℕ → (at end : ℕ) → Result (ℕ × ℕ) NumberFault
first [] at end = Err (Missing end)
first (low ∷ rest) at end = cond (nat_lt low 128) (Ok (low, at + 1)) (second low rest at end)

-- the number that begins at `at`: its value and the place after it, or the fault
unfoldable pub read_number : List ℕ → (at : ℕ) → Result (ℕ × ℕ) NumberFault
read_number input at = first (drop at input) at (length input)

-- an answer is exact: a value whose form stands from `at` to the place after it, or a fault where no form begins
abbrev pub Exactly : List ℕ → (at : ℕ) → Result (ℕ × ℕ) NumberFault → Type 0
Exactly input at (Ok p) = (at < p.1) × (p.1 ≤ length input) × Form p.0 (between at p.1 input)
Exactly input at (Err _) = (value to : ℕ) → Form value (between at to input) → ⊥
