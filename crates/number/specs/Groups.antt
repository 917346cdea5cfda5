-- How many groups of seven bits a number takes.
use Rattle.std.specs.Prelude.{ℕ, ◌+◌, ◌-◌, ◌*◌, ◌^◌, ◌<◌, ◌≤◌, max, List, [], ◌∷◌, slice_index}
use Rattle.std.specs.Int.Count.{count_leading_zeros}

-- by its count of significant bits: 0 to 7 bits take one, 8 to 14 two, 15 and 16 three
abbrev pub table : List ℕ
table = 1 ∷ 1 ∷ 1 ∷ 1 ∷ 1 ∷ 1 ∷ 1 ∷ 1 ∷ 2 ∷ 2 ∷ 2 ∷ 2 ∷ 2 ∷ 2 ∷ 2 ∷ 3 ∷ 3 ∷ []

-- the significant bits of a number below 2 ^ 16
abbrev pub bits : ℕ → ℕ
bits value = 16 - count_leading_zeros 16 value

unfoldable pub groups : ℕ → ℕ
groups value = slice_index table (bits value)

-- the rule of the table: seven bits a group, as many groups as the bits fill or begin, and one for no bits
abbrev pub Ruled : Type 0
Ruled = (b : ℕ) → b ≤ 16 → (max b 1 ≤ 7 * slice_index table b) × (7 * slice_index table b ≤ max b 1 + 6)

-- k groups hold the value, and no fewer than k do; a number takes one group at least
pub record Fewest (value k : ℕ) : Type 0 where
  pub some : 0 < k
  pub holds : value < 128 ^ k
  pub fewest : (j : ℕ) → 0 < j → value < 128 ^ j → k ≤ j
