-- Bits of a list of words of 64.
use Rattle.std.specs.Prelude.{◌≡◌, ℕ, ◌*◌, ◌/◌, ◌%◌, ◌<◌, ◌≤◌, ◌⊎◌, List, length, slice_index, Some, None, Option, ◌≢◌}
use Rattle.std.specs.Int.{bit_at as bit}

-- 1 where k is in the set, else 0
unfoldable pub bit_at : List ℕ → (k : ℕ) → ℕ
bit_at words k = bit (slice_index words (k / 64)) (k % 64)

-- each number of the one set is in the other
abbrev pub Within : (one other : List ℕ) → Type 0
Within one other = (k : ℕ) → bit_at one k ≡ 1 → bit_at other k ≡ 1

-- an answer is the least number in the set; or none, where the set is empty
abbrev pub First : List ℕ → Option ℕ → Type 0
First words (Some k) = (k < 64 * length words) × (bit_at words k ≡ 1) × ((l : ℕ) → l < k → bit_at words l ≡ 0)
First words None = (l : ℕ) → l < 64 * length words → bit_at words l ≡ 0

-- an answer is the least number in the set from `from` on; or none, where there is none
abbrev pub FirstFrom : List ℕ → (from : ℕ) → Option ℕ → Type 0
FirstFrom words from (Some k) = (from ≤ k) × (k < 64 * length words) × (bit_at words k ≡ 1) × ((l : ℕ) → from ≤ l → l < k → bit_at words l ≡ 0)
FirstFrom words from None = (l : ℕ) → from ≤ l → bit_at words l ≡ 0

-- k is the least bit of the word, and the rest are its other bits
pub record Parted (word k rest : ℕ) : Type 0 where
  pub inside : k < 64
  pub here : bit word k ≡ 1
  pub least : (l : ℕ) → l < k → bit word l ≡ 0
  pub gone : bit rest k ≡ 0
  pub others : (l : ℕ) → (l ≢ k) → bit rest l ≡ bit word l
  pub less : rest < word

-- an answer is the least number in the set, and is taken out; or none, where the set is empty, and nothing changes
abbrev pub Popped : (before after : List ℕ) → Option ℕ → Type 0
Popped before after (Some k) = First before (Some k) × (bit_at after k ≡ 0) × ((l : ℕ) → (l ≢ k) → bit_at after l ≡ bit_at before l)
Popped before after None = First before None × (after ≡ before)

-- the same from `from` on, or where none is left there, from the beginning
abbrev pub PoppedFrom : (before after : List ℕ) → (from : ℕ) → Option ℕ → Type 0
PoppedFrom before after from (Some k) =
    (FirstFrom before from (Some k) ⊎ (FirstFrom before from None × First before (Some k))) × (bit_at after k ≡ 0) × ((l : ℕ) → (l ≢ k) → bit_at after l ≡ bit_at before l)
PoppedFrom before after from None = First before None × (after ≡ before)

-- an answer is in the set, and no other number is; or none, where another count of numbers is in the set
abbrev pub Only : List ℕ → Option ℕ → Type 0
Only words (Some k) = (k < 64 * length words) × (bit_at words k ≡ 1) × ((l : ℕ) → l < 64 * length words → bit_at words l ≡ 1 → l ≡ k)
Only words None = (k : ℕ) → k < 64 * length words → ((l : ℕ) → l < 64 * length words → bit_at words l ≡ 1 → l ≡ k) → bit_at words k ≡ 1 → ⊥
