-- Writing bytes into a lent buffer.
use Rattle.std.specs.Prelude.{◌≡◌, ℕ, ◌+◌, ◌<◌, ◌≤◌, List, ◌++◌, length, take, drop, Ok, Err, Result}
use Rattle.number.specs.declared.fault.NoRoom.{NoRoom}

-- the bytes stand at `at`, up to the place that is answered, and the buffer before and beyond stays; or they have no room, and all stays
abbrev pub Wrote : (bytes : List ℕ) (at : ℕ) → List ℕ → Result ℕ NoRoom → List ℕ → Type 0
Wrote bytes at before (Ok to) after = (to ≡ at + length bytes) × (to ≤ length before) × (after ≡ take at before ++ (bytes ++ drop to before))
Wrote bytes at before (Err _) after = (length before < at + length bytes) × (after ≡ before)
