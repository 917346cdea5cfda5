-- Sets of numbers, word by word: the numbers of both, and those of either.
use Rattle.std.proofs.Common.{◌≡◌, ℕ, ◌+◌, ◌-◌, ◌*◌, ◌<◌, ◌≤◌, List, length, get_or, set, refl, sym, ap, ap₂, ◌∙◌, ⊎_elim, arith}
use Rattle.std.specs.Int.{bit_at as bit}
use Rattle.std.proofs.lemmas.List.{get_or-set_same}
use Rattle.std.proofs.lemmas.Bool.{cases_lt}
use Rattle.subsume.specs.Bits.{bit_at}
use Rattle.subsume.proofs.Sets.{bit-of_word, other-word, none-past}

module _ (f : ℕ → ℕ → ℕ) (other before : List ℕ) where
  -- the bits of the first w words were combined with those of the other set
  pub record Combined (words : List ℕ) (w : ℕ) : Type 0 where
    pub done : (l : ℕ) → l < 64 * w → bit_at words l ≡ f (bit_at before l) (bit_at other l)
    pub rest : (l : ℕ) → 64 * w ≤ l → bit_at words l ≡ bit_at before l

  module _ (words : List ℕ) (w v : ℕ) (inside : w < length words) (is : (m : ℕ) → bit v m ≡ f (bit (get_or words w 0) m) (bit (get_or other w 0) m)) (c : Combined words w) where
    at-word : (l m : ℕ) → m < 64 → l ≡ 64 * w + m → bit_at (set words w v) l ≡ f (bit_at before l) (bit_at other l)
    at-word l m small e =
        let place : (ws : List ℕ) → bit_at ws l ≡ bit (get_or ws w 0) m = λ ws. ap (bit_at ws) e ∙ bit-of_word ws w m small in
        place (set words w v) ∙ ap (λ (x : ℕ). bit x m) (get_or-set_same words w v 0 inside) ∙ is m
        ∙ ap₂ f (sym (place words) ∙ c.rest l (omega arith)) (sym (place other))

    pub combined-more : Combined (set words w v) (w + 1)
    combined-more = record {
      done = λ l h. ⊎_elim
          (λ (b : l < 64 * w). other-word words w v l (omega arith) ∙ c.done l b)
          (λ b. at-word l (l - 64 * w) (omega arith) (omega arith))
          (cases_lt l (64 * w));
      rest = λ l h. other-word words w v l (omega arith) ∙ c.rest l (omega arith);
    }

  pub combined-all : (words : List ℕ) (w : ℕ) → f 0 0 ≡ 0 → length before ≤ w → length other ≤ w → Combined words w → (l : ℕ) → bit_at words l ≡ f (bit_at before l) (bit_at other l)
  combined-all words w none few small c l =
      ⊎_elim
      (λ (h : l < 64 * w). c.done l h)
      (λ h. let zero = none-past before l (omega arith) in c.rest l h ∙ zero ∙ sym none ∙ ap₂ f (sym zero) (sym (none-past other l (omega arith))))
      (cases_lt l (64 * w))

pub combined-none : (f : ℕ → ℕ → ℕ) (other before : List ℕ) → Combined f other before before 0
combined-none f other before = record { done = λ l h. absurd (omega arith); rest = λ l h. refl }
