-- The entries of an input: each is a packed length, and that many bytes.
use Rattle.std.specs.Prelude.{ℕ, ◌+◌, ◌-◌, ◌<◌, ◌≤◌, cond, List, length, Ok, Err, Result, nat_le}
use Rattle.number.specs.declared.fault.NumberFault.{NumberFault}
use Rattle.number.specs.declared.fault.NumberFault.TheVariants.{Missing}
use Rattle.number.specs.Reads.{read_number}

-- where the bytes of that length begin and end; where it reaches beyond the end, bytes are missing
abbrev pub reach : (end : ℕ) → Result (ℕ × ℕ) NumberFault → Result (ℕ × ℕ) NumberFault
reach end (Ok p) = cond (nat_le p.0 (end - p.1)) (Ok (p.1, p.1 + p.0)) (Err (Missing end))
reach end (Err fault) = Err fault

-- the entry at `at`: where its bytes begin and end, or the fault of its length
unfoldable pub entry_at : List ℕ → (at : ℕ) → Result (ℕ × ℕ) NumberFault
entry_at input at = reach (length input) (read_number input at)

-- the bytes of an entry stand after its place and within the input
abbrev pub Inside : List ℕ → (at : ℕ) → Result (ℕ × ℕ) NumberFault → Type 0
Inside input at (Ok p) = (at < p.0) × (p.0 ≤ p.1) × (p.1 ≤ length input)
Inside input at (Err fault) = Unit {0}
