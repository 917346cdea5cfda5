-- The first node of a word, and where it has no other.
use Rattle.std.proofs.Common.{◌≡◌, ℕ, zero, suc, ◌+◌, ◌<◌, List, ◌∷◌, length, get_or, drop, ap, ◌∙◌, sym, refl, arith}
use Rattle.term.specs.Coding.{places_of, decode, Whole, hd, word_at}
use Rattle.term.specs.Words.{Word, var, app, len}
use Rattle.term.specs.declared.node.Node.{Node}
use Rattle.term.specs.declared.node.Node.TheVariants.{Variable, Applied}
use Rattle.term.proofs.Codings.{len-first, at_words, at-whole}

abbrev root : Word → Node
root (var x) = Variable x
root (app s us) = Applied s (len us)

root-decode : (x : Node) (nodes : List Node) → Whole (x ∷ nodes) → root (hd (decode (x ∷ nodes))) ≡ x
unfolding decode Whole
root-decode (Variable x) nodes w = refl
root-decode (Applied s k) nodes w = ap (λ (n : ℕ). Applied s n) (len-first k (decode nodes) w.0)

root_at : (nodes : List Node) (i : ℕ) (d : Node) → i < length nodes → Whole nodes → root (word_at nodes i) ≡ get_or nodes i d
root_at nodes i d h w = rw (at_words nodes i d h) (root-decode (get_or nodes i d) (drop (i + 1) nodes) (at-whole nodes i d h w))

leaf : (x : Node) (xs ys : List Node) → places_of x ≡ 0 → hd (decode (x ∷ xs)) ≡ hd (decode (x ∷ ys))
unfolding decode
leaf (Variable x) xs ys e = refl
leaf (Applied s zero) xs ys e = refl
leaf (Applied s (suc k)) xs ys e = absurd (omega (arith, e))

module _ (nodes : List Node) (whole : Whole nodes) (i j : ℕ) (d : Node) (here : i < length nodes) (there : j < length nodes) where
  -- equal words have equal first nodes
  pub same_roots : word_at nodes i ≡ word_at nodes j → get_or nodes i d ≡ get_or nodes j d
  same_roots e = sym (root_at nodes i d here whole) ∙ ap root e ∙ root_at nodes j d there whole

  -- where the first node has no places, it tells the word
  pub same_leaves : get_or nodes i d ≡ get_or nodes j d → places_of (get_or nodes i d) ≡ 0 → word_at nodes i ≡ word_at nodes j
  same_leaves e none =
      ap hd (at_words nodes i d here)
      ∙ leaf (get_or nodes i d) (drop (i + 1) nodes) (drop (j + 1) nodes) none
      ∙ ap (λ (x : Node). hd (decode (x ∷ drop (j + 1) nodes))) e
      ∙ sym (ap hd (at_words nodes j d there))
