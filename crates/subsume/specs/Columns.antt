-- Columns: targets by their labels.
use Rattle.std.specs.Prelude.{◌≡◌, ℕ, ◌<◌, ◌≤◌, List, length, take, slice_index, slice_index_or, Some, None, Option, ◌≢◌}
use Rattle.std.specs.Int.{bit_at as bit}
use Rattle.subsume.specs.declared.column.Column.{Column}
use Rattle.subsume.specs.declared.front.Front.{Front}
use Rattle.subsume.specs.Bits.{bit_at}
use Rattle.subsume.specs.Choices.{Shows, front_at}

-- a column has for each label just the targets that have it, beside them what is no target, and just the labels that the
-- targets of a set give
pub record Supported (met labels : List ℕ) (column : Column) : Type 0 where
  pub few : length labels ≤ 16
  pub small : (j : ℕ) → j < length labels → slice_index labels j < 64
  pub here : (j : ℕ) → j < length labels → bit (slice_index column.supports (slice_index labels j)) j ≡ 1
  pub only : (l j : ℕ) → bit (slice_index column.supports l) j ≡ 1 → (j < length labels) × (slice_index labels j ≡ l)
  pub none : (j : ℕ) → j < length labels → bit column.others j ≡ 0
  pub past : (j : ℕ) → length labels ≤ j → j < 64 → bit column.others j ≡ 1
  pub given : (k : ℕ) → k < length labels → bit_at met k ≡ 1 → bit column.given (slice_index labels k) ≡ 1
  pub missing : (l : ℕ) → l < 64 → ((k : ℕ) → k < length labels → bit_at met k ≡ 1 → slice_index labels k ≢ l) → bit column.given l ≡ 0

-- of the targets of one word, just such are struck out as have no marked label
pub record SiftedWord (labels : List ℕ) (word : ℕ) (marks : List ℕ) (after : ℕ) : Type 0 where
  pub kept : (k : ℕ) → k < length labels → bit word k ≡ 1 → Shows marks (slice_index labels k) → bit after k ≡ 1
  pub fewer : (k : ℕ) → bit after k ≡ 1 → bit word k ≡ 1
  pub marked : (k : ℕ) → k < length labels → bit after k ≡ 1 → Shows marks (slice_index labels k)
  pub outside : (k : ℕ) → length labels ≤ k → bit after k ≡ bit word k

-- a column of the first n labels of the front at its place
abbrev pub Columned : {N : ℕ} → List (Front N) → (n : ℕ) → List (Option Column) → Type 0
Columned fronts n columns =
    (r : ℕ) (column : Column) → r < length fronts → slice_index_or columns r None ≡ Some column → Supported (front_at fronts r).met.words (take n (front_at fronts r).labels) column
