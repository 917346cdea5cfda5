-- What is in a set of numbers after a word of it has changed, and its least number.
use Rattle.std.proofs.Common.{◌≡◌, ℕ, zero, suc, ◌+◌, ◌-◌, ◌*◌, ◌/◌, ◌%◌, ◌^◌, ◌<◌, ◌≤◌, List, length, get_or, set, replicate, Some, None, bit_and, ap, ◌∙◌, sym, ap₂, ⊎_elim, ◌≢◌, arith}
use Rattle.std.specs.Int.{w64, trailing_zeros, bit_not, bit_at as bit}
use Rattle.std.proofs.lemmas.Nat.Bits.{bit_at-lt, bit_at-zero, bit_at-suc, bit_at_lowest, bit_at_and, bit_at_not, bit_at-trailing_zeros, bit_at_ones, bit_at_above, bit_at_clear_same, bit_at_clear_other}
use Rattle.std.proofs.lemmas.List.{get_or-set_same, get_or-set_other, get_or-replicate, get_or_past, length-replicate}
use Rattle.std.proofs.lemmas.Nat.{and_le_l, shr-shr}
use Rattle.std.proofs.Math.Nat.{div-le_self}
use Rattle.std.proofs.lemmas.Bool.{cases_eq, cases_lt}
use Rattle.subsume.specs.Bits.{bit_at, FirstFrom, Parted}

module _ (words : List ℕ) (k v : ℕ) (inside : k < 64 * length words) where
  pub set_here : bit_at (set words (k / 64) v) k ≡ bit v (k % 64)
  unfolding bit_at
  set_here = ap (λ (x : ℕ). bit x (k % 64)) (get_or-set_same words (k / 64) v 0 (omega arith))

  pub set_others : ((i : ℕ) → i < 64 → (i ≡ k % 64 → ⊥) → bit v i ≡ bit (get_or words (k / 64) 0) i) → (l : ℕ) → (l ≡ k → ⊥) → bit_at (set words (k / 64) v) l ≡ bit_at words l
  unfolding bit_at
  set_others same l n =
      ⊎_elim
      (λ (e : l / 64 ≡ k / 64).
      ap (λ (z : ℕ). bit (get_or (set words (k / 64) v) z 0) (l % 64)) e
      ∙ ap (λ (x : ℕ). bit x (l % 64)) (get_or-set_same words (k / 64) v 0 (omega arith))
      ∙ same (l % 64) (omega arith) (λ f. n (omega arith))
      ∙ ap (λ (z : ℕ). bit (get_or words z 0) (l % 64)) (sym e))
      (λ e. ap (λ (x : ℕ). bit x (l % 64)) (get_or-set_other words (k / 64) (l / 64) v 0 e))
      (cases_eq (l / 64) (k / 64))

pub bit-below : (words : List ℕ) (k : ℕ) → bit_at words k < 2
unfolding bit_at
bit-below words k = bit_at-lt (get_or words (k / 64) 0) (k % 64)

-- a number is in a set or not
pub absent : (words : List ℕ) (k : ℕ) → (bit_at words k ≡ 1 → ⊥) → bit_at words k ≡ 0
absent words k n = ⊎_elim (λ e. absurd (n e)) (λ m. omega (arith, bit-below words k, m)) (cases_eq (bit_at words k) 1)

pub empty-word : (words : List ℕ) (l : ℕ) → get_or words (l / 64) 0 ≡ 0 → bit_at words l ≡ 0
unfolding bit_at
empty-word words l e = ap (λ (x : ℕ). bit x (l % 64)) e ∙ bit_at-zero (l % 64)

pub none-past : (words : List ℕ) (l : ℕ) → length words ≤ l / 64 → bit_at words l ≡ 0
none-past words l h = empty-word words l (get_or_past words (l / 64) 0 h)

pub none-in : (n k : ℕ) → bit_at (replicate n 0) k ≡ 0
none-in n k =
    empty-word (replicate n 0) k
    (⊎_elim (λ (h : k / 64 < n). get_or-replicate n (k / 64) 0 0 h) (λ h. get_or_past (replicate n 0) (k / 64) 0 (omega (arith, length-replicate {A = ℕ} n 0))) (cases_lt (k / 64) n))

pub all-in : (n k : ℕ) → k < 64 * n → bit_at (replicate n (2 ^ 64 - 1)) k ≡ 1
unfolding bit_at
all-in n k h = ap (λ (x : ℕ). bit x (k % 64)) (get_or-replicate n (k / 64) (2 ^ 64 - 1) 0 (omega arith)) ∙ bit_at_ones 64 (k % 64) (omega arith)

bit-shifted : (n s i : ℕ) → bit (n / 2 ^ s) i ≡ bit n (s + i)
bit-shifted n s i = ap (λ (x : ℕ). x % 2) (shr-shr n s i)

-- the least number from a number on
module _ (words : List ℕ) (from : ℕ) (inside : from / 64 < length words) where
  abbrev word : ℕ
  word = get_or words (from / 64) 0

  abbrev rest : ℕ
  rest = word / 2 ^ (from % 64)

  pub first-here : 0 < rest → word < 2 ^ 64 → FirstFrom words from (Some (from + trailing_zeros w64 rest))
  unfolding bit_at
  first-here some small =
      let fits : rest < 2 ^ 64 = omega (arith, small, div-le_self word (2 ^ (from % 64))) in
      let t = trailing_zeros w64 rest in
      let z = bit_at-trailing_zeros w64 rest some fits in
      let here : bit word (from % 64 + t) ≡ 1 = sym (bit-shifted word (from % 64) t) ∙ z.1 in
      let below : from % 64 + t < 64 =
      ⊎_elim (λ h. h) (λ (h : 64 ≤ from % 64 + t). let zero : bit word (from % 64 + t) ≡ 0 = bit_at_above word 64 (from % 64 + t) small h in absurd (omega (arith, zero, here))) (cases_lt (from % 64 + t) 64) in (
        omega arith,
        omega (arith, below),
        let w : (from + t) / 64 ≡ from / 64 = omega (arith, below) in
            let p : (from + t) % 64 ≡ from % 64 + t = omega (arith, below) in
            rw (w, p) here,
        λ l h k.
            let w : l / 64 ≡ from / 64 = omega (arith, below, h, k) in
            let p : l % 64 ≡ from % 64 + (l - from) = omega (arith, below, h, k) in
            rw (w, p) (sym (bit-shifted word (from % 64) (l - from)) ∙ z.2 (l - from) (omega (arith, h, k))),
      )

  none_here : rest ≡ 0 → (l : ℕ) → from ≤ l → l / 64 ≡ from / 64 → bit_at words l ≡ 0
  unfolding bit_at
  none_here e l h w =
      let p : l % 64 ≡ from % 64 + (l - from) = omega (arith, h, w) in
      rw (w, p) (sym (bit-shifted word (from % 64) (l - from)) ∙ ap (λ (x : ℕ). bit x (l - from)) e ∙ bit_at-zero (l - from))

  pub first-later : rest ≡ 0 → (v : ℕ) → from / 64 < v → v < length words → ((u : ℕ) → from / 64 < u → u < v → get_or words u 0 ≡ 0) → 0 < get_or words v 0 → get_or words v 0 < 2 ^ 64
      → FirstFrom words from (Some (64 * v + trailing_zeros w64 (get_or words v 0)))
  unfolding bit_at
  first-later e v later within none some fits =
      let t = trailing_zeros w64 (get_or words v 0) in
      let z = bit_at-trailing_zeros w64 (get_or words v 0) some fits in
      let small : t < 64 = z.0 in (
        omega arith,
        omega arith,
        let w : (64 * v + t) / 64 ≡ v = omega arith in
            let p : (64 * v + t) % 64 ≡ t = omega arith in
            rw (w, p) z.1,
        λ l h k.
            ⊎_elim
            (λ (w : l / 64 ≡ from / 64). none_here e l h w)
            (λ o. ⊎_elim
            (λ (b : l / 64 < v). empty-word words l (none (l / 64) (omega (arith, h, o)) b))
            (λ (b : v ≤ l / 64). let w : l / 64 ≡ v = omega (arith, b, k) in rw w (z.2 (l % 64) (omega (arith, b, k))))
            (cases_lt (l / 64) v))
            (cases_eq (l / 64) (from / 64)),
      )

  pub no-later : rest ≡ 0 → ((u : ℕ) → from / 64 < u → u < length words → get_or words u 0 ≡ 0) → FirstFrom words from None
  no-later e none l h =
      ⊎_elim
      (λ (w : l / 64 ≡ from / 64). none_here e l h w)
      (λ o. ⊎_elim (λ (b : l / 64 < length words). empty-word words l (none (l / 64) (omega (arith, h, o)) b)) (λ b. none-past words l b) (cases_lt (l / 64) (length words)))
      (cases_eq (l / 64) (from / 64))

-- a word without a bit, where b is 1, and as it was, where b is 0
abbrev pub cleared : (word k b : ℕ) → ℕ
cleared word k b = bit_and word (bit_not w64 (b * 2 ^ k % 2 ^ 64))

module _ (word k : ℕ) (inside : k < 64) (fits : word < 2 ^ 64) where
  past : (b l : ℕ) → 64 ≤ l → bit (cleared word k b) l ≡ bit word l
  past b l h = bit_at_above (cleared word k b) 64 l (omega (arith, and_le_l word (bit_not w64 (b * 2 ^ k % 2 ^ 64)), fits)) h ∙ sym (bit_at_above word 64 l fits h)

  pub cleared-here : bit (cleared word k 1) k ≡ 0
  cleared-here = bit_at_clear_same w64 word k inside

  pub cleared-others : (l : ℕ) → l ≢ k → bit (cleared word k 1) l ≡ bit word l
  cleared-others l n = ⊎_elim (λ (h : l < 64). bit_at_clear_other w64 word k inside l h n) (λ (h : 64 ≤ l). past 1 l h) (cases_lt l 64)

  pub cleared-none : (l : ℕ) → bit (cleared word k 0) l ≡ bit word l
  cleared-none l =
      let none : 0 * 2 ^ k % 2 ^ 64 ≡ 0 = omega arith in
      ⊎_elim
      (λ (h : l < 64).
      ap (λ (m : ℕ). bit (bit_and word (bit_not w64 m)) l) none ∙ omega (arith, bit_at_and word (bit_not w64 0) l, bit_at_not w64 0 l (omega arith) h, bit_at-zero l, bit_at-lt word l))
      (λ (h : 64 ≤ l). past 0 l h)
      (cases_lt l 64)

-- one less than a number: its least bit is gone, and those above stay
on-half : (n m i : ℕ) → n / 2 ≡ m / 2 → 0 < i → bit n i ≡ bit m i
on-half n m zero e h = absurd (omega arith)
on-half n m (suc i) e h = bit_at-suc n i ∙ ap (λ (x : ℕ). bit x i) e ∙ sym (bit_at-suc m i)

on-next : (n m t : ℕ) → ((i : ℕ) → t < i → bit (n / 2) i ≡ bit (m / 2) i) → (i : ℕ) → suc t < i → bit n i ≡ bit m i
on-next n m t above zero h = absurd (omega arith)
on-next n m t above (suc i) h = bit_at-suc n i ∙ above i (omega arith) ∙ sym (bit_at-suc m i)

less-one : (k n : ℕ) → bit n k ≡ 1 → ((i : ℕ) → i < k → bit n i ≡ 0) → (bit (n - 1) k ≡ 0) × ((i : ℕ) → k < i → bit (n - 1) i ≡ bit n i)
less-one zero n here below =
    let odd : n % 2 ≡ 1 = sym (bit_at_lowest n) ∙ here in
    (bit_at_lowest (n - 1) ∙ omega (arith, odd), λ i h. on-half (n - 1) n i (omega (arith, odd)) h)
less-one (suc k) n here below =
    let even : n % 2 ≡ 0 = sym (bit_at_lowest n) ∙ below 0 (omega arith) in
    let half : (n - 1) / 2 ≡ n / 2 - 1 = omega (arith, even) in
    let inner = less-one k (n / 2) (sym (bit_at-suc n k) ∙ here) (λ i h. sym (bit_at-suc n i) ∙ below (suc i) (omega arith)) in (
      bit_at-suc (n - 1) k ∙ ap (λ (x : ℕ). bit x k) half ∙ inner.0,
      on-next (n - 1) n k (λ i h. ap (λ (x : ℕ). bit x i) half ∙ inner.1 i h),
    )

-- the least bit of a word, and the rest
pub parted : (word : ℕ) → 0 < word → (fits : word < 2 ^ 64) → Parted word (trailing_zeros w64 word) (bit_and word (word - 1))
parted word some fits =
    let k = trailing_zeros w64 word in
    let z = bit_at-trailing_zeros w64 word some fits in
    let rest = bit_and word (word - 1) in
    let bits = bit_at_and word (word - 1) in
    let one = less-one k word z.1 z.2 in
    let gone : bit rest k ≡ 0 = omega (arith, bits k, one.0) in
    let other : rest ≢ word = λ e. omega (arith, gone, ap (λ (n : ℕ). bit n k) e, z.1) in
    record {
      inside = z.0;
      here = z.1;
      least = z.2;
      gone = gone;
      others = λ l n. ⊎_elim (λ (h : l < k). omega (arith, bits l, z.2 l h)) (λ (h : k ≤ l). omega (arith, bits l, one.1 l (omega (arith, n)))) (cases_lt l k);
      less = omega (arith, and_le_l word (word - 1), other);
    }

-- a bit of one word of a set
pub bit-of_word : (words : List ℕ) (w k : ℕ) → k < 64 → bit_at words (64 * w + k) ≡ bit (get_or words w 0) k
unfolding bit_at
bit-of_word words w k h =
    let v : (64 * w + k) / 64 ≡ w = omega (arith, h) in
    let p : (64 * w + k) % 64 ≡ k = omega (arith, h) in
    ap₂ (λ (v p : ℕ). bit (get_or words v 0) p) v p

-- the bits of the other words after a word has changed
pub other-word : (words : List ℕ) (w v l : ℕ) → l / 64 ≢ w → bit_at (set words w v) l ≡ bit_at words l
unfolding bit_at
other-word words w v l n = ap (λ (x : ℕ). bit x (l % 64)) (get_or-set_other words w (l / 64) v 0 n)
