-- Pairs of places as a table of pairs of words.
use Rattle.std.proofs.Common.{◌≡◌, ℕ, zero, suc, ◌<◌, List, [], ◌∷◌, ◌++◌, length, get_or, sym, refl, ap, subst, arith}
use Rattle.std.proofs.lemmas.List.Elements.{All-nil}
use Rattle.term.specs.declared.join.Pair.{Pair}
use Rattle.term.specs.declared.node.Node.{Node}
use Rattle.term.specs.Words.{Word}
use Rattle.term.specs.Coding.{word_at}
use Rattle.term.specs.Joins.{Table, Same, same_decided, place, enter}
use Rattle.term.specs.Joined.{mean, Inside}
use Rattle.term.proofs.Cases.{by-test}

abbrev pub none : Pair
none = record { left = 0; right = 0 }

module _ (a b : List Node) where
  pub inside-none : (pairs : List Pair) → pairs ≡ [] → Inside a b pairs
  inside-none pairs e = subst (Inside a b) (sym e) (All-nil (λ (p : Pair). (p.left < length a) × (p.right < length b)))

  pub mean-none : (pairs : List Pair) → pairs ≡ [] → mean a b pairs ≡ []
  unfolding mean
  mean-none pairs e = ap (mean a b) e

  module _ (u v : Word) where
    -- the pair p stands for u and v
    abbrev pub Of : Pair → Type 0
    Of p = Same (u, v) (word_at a p.left, word_at b p.right)

    pub found : (pairs : List Pair) (k : ℕ) (d : Pair) → k < length pairs → ((m : ℕ) → m < k → ¬ Of (get_or pairs m d)) → Of (get_or pairs k d) →
        (place (mean a b pairs) u v ≡ k) × (enter (mean a b pairs) u v ≡ mean a b pairs)
    unfolding mean
    found [] k d h n i = absurd (omega arith)
    found (p ∷ pairs) zero d h n i =
        let q : Word × Word = (word_at a p.left, word_at b p.right) in (
          by-test (λ (x : ℕ). ◌≡◌ {A = ℕ} x 0) (same_decided (u, v) q) (λ _. refl) (λ m. absurd (m i)),
          by-test (λ (T : Table). ◌≡◌ {A = Table} (q ∷ T) (q ∷ mean a b pairs)) (same_decided (u, v) q) (λ _. refl) (λ m. absurd (m i)),
        )
    found (p ∷ pairs) (suc k) d h n i =
        let q : Word × Word = (word_at a p.left, word_at b p.right) in
        let r = found pairs k d (omega arith) (λ m l. n (suc m) (omega arith)) i in (
          by-test (λ (x : ℕ). ◌≡◌ {A = ℕ} x (suc k)) (same_decided (u, v) q) (λ s. absurd (n 0 (omega arith) s)) (λ _. ap suc r.0),
          by-test (λ (T : Table). ◌≡◌ {A = Table} (q ∷ T) (q ∷ mean a b pairs)) (same_decided (u, v) q) (λ _. refl) (λ _. ap (◌∷◌ q) r.1),
        )

    pub missing : (pairs : List Pair) (d p : Pair) → Of p → ((m : ℕ) → m < length pairs → ¬ Of (get_or pairs m d)) →
        (place (mean a b pairs) u v ≡ length pairs) × (enter (mean a b pairs) u v ≡ mean a b (pairs ++ p ∷ []))
    unfolding mean
    missing [] d p i n = (refl, ap (λ (x : Word × Word). x ∷ []) (λ t. (i.0 t, i.1 t)))
    missing (e ∷ pairs) d p i n =
        let q : Word × Word = (word_at a e.left, word_at b e.right) in
        let r = missing pairs d p i (λ m l. n (suc m) (omega arith)) in (
          by-test (λ (x : ℕ). ◌≡◌ {A = ℕ} x (suc (length pairs))) (same_decided (u, v) q) (λ s. absurd (n 0 (omega arith) s)) (λ _. ap suc r.0),
          by-test (λ (T : Table). ◌≡◌ {A = Table} (q ∷ T) (q ∷ mean a b (pairs ++ p ∷ []))) (same_decided (u, v) q) (λ s. absurd (n 0 (omega arith) s)) (λ _. ap (◌∷◌ q) r.1),
        )
