-- Lines one after the other.
use Rattle.std.proofs.Common.{◌≡◌, ℕ, ◌+◌, List, ◌++◌, sym, ap, ◌∙◌, append_assoc, append-nil, add-one}
use Rattle.listing.specs.Explained.{lines}

module _ (line : ℕ → List ℕ) where
  lines-more : (n : ℕ) → lines line (n + 1) ≡ lines line n ++ line n
  unfolding lines
  lines-more n = rw add-one

  pub lines-none : (text : List ℕ) → text ≡ text ++ lines line 0
  unfolding lines
  lines-none text = sym (append-nil text)

  -- a line was added in three parts
  pub line-added : (n : ℕ) (t0 t t1 t2 t3 a b c : List ℕ) → t ≡ t0 ++ lines line n → t1 ≡ t ++ a → t2 ≡ t1 ++ b → t3 ≡ t2 ++ c → line n ≡ a ++ (b ++ c)
      → t3 ≡ t0 ++ lines line (n + 1)
  line-added n t0 t t1 t2 t3 a b c e p q r is =
      r ∙ ap (λ (l : List ℕ). l ++ c) (q ∙ ap (λ (l : List ℕ). l ++ b) (p ∙ ap (λ (l : List ℕ). l ++ a) e))
      ∙ append_assoc ((t0 ++ lines line n) ++ a) b c
      ∙ append_assoc (t0 ++ lines line n) a (b ++ c)
      ∙ append_assoc t0 (lines line n) (a ++ (b ++ c))
      ∙ ap (λ (l : List ℕ). t0 ++ l) (ap (λ (l : List ℕ). lines line n ++ l) (sym is) ∙ sym (lines-more n))
