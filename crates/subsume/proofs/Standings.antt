-- The targets in which a walk has not ended.
use Rattle.std.proofs.Common.{◌≡◌, ℕ, zero, suc, ◌+◌, ◌-◌, ◌*◌, ◌<◌, ◌≤◌, min, List, length, get_or, set, Some, refl, sym, ap, ap₂, ◌∙◌, ⊎_elim, arith}
use Rattle.std.specs.Int.{bit_at as bit}
use Rattle.std.proofs.lemmas.Bool.{cases_lt}
use Rattle.std.proofs.lemmas.List.{get_or-set_same}
use Rattle.subsume.specs.Bits.{bit_at}
use Rattle.subsume.specs.Fronts.{where_set}
use Rattle.subsume.proofs.Sets.{bit-of_word, none-past, other-word}

pub is_set : (b q r : ℕ) → where_set b q ≡ Some r → b ≡ 1
is_set zero q r e = absurd (cc)
is_set (suc zero) q r e = refl
is_set (suc (suc b)) q r e = absurd (cc)

-- of the first w words, the bits that both sets have are left
pub record Meeting (met before words : List ℕ) (w : ℕ) : Type 0 where
  pub done : (l : ℕ) → l < 64 * w → bit_at words l ≡ min (bit_at before l) (bit_at met l)
  pub rest : (l : ℕ) → 64 * w ≤ l → bit_at words l ≡ bit_at before l

module _ (met before words : List ℕ) (w v : ℕ) (inside : w < length words)
    (both : (m : ℕ) → bit v m ≡ min (bit (get_or words w 0) m) (bit (get_or met w 0) m)) (r : Meeting met before words w) where
  at-word : (l m : ℕ) → m < 64 → l ≡ 64 * w + m → bit_at (set words w v) l ≡ min (bit_at before l) (bit_at met l)
  at-word l m small e =
      let place : (ws : List ℕ) → bit_at ws l ≡ bit (get_or ws w 0) m = λ ws. ap (bit_at ws) e ∙ bit-of_word ws w m small in
      place (set words w v) ∙ ap (λ (x : ℕ). bit x m) (get_or-set_same words w v 0 inside) ∙ both m
      ∙ ap₂ min (sym (place words) ∙ r.rest l (omega arith)) (sym (place met))

  pub meeting-more : Meeting met before (set words w v) (w + 1)
  meeting-more = record {
    done = λ l h. ⊎_elim
        (λ (b : l < 64 * w). other-word words w v l (omega arith) ∙ r.done l b)
        (λ b. at-word l (l - 64 * w) (omega arith) (omega arith))
        (cases_lt l (64 * w));
    rest = λ l h. other-word words w v l (omega arith) ∙ r.rest l (omega arith);
  }

pub met-all : (met before after : List ℕ) (w : ℕ) → length before ≤ w → length after ≤ w → Meeting met before after w → (l : ℕ) → bit_at after l ≡ min (bit_at before l) (bit_at met l)
met-all met before after w all few r l =
    ⊎_elim (λ (h : l < 64 * w). r.done l h)
    (λ h. let none = none-past before l (omega (arith, h, all)) in let gone = none-past after l (omega (arith, h, few)) in omega (arith, none, gone))
    (cases_lt l (64 * w))
