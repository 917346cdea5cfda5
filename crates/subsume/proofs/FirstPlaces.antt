-- The first place of a word.
use Rattle.std.proofs.Common.{◌≡◌, ℕ, zero, suc, ◌+◌, ◌%◌, ◌<◌, ◌≤◌, List, [], ◌∷◌, length, get_or, set, refl, sym, ap, ◌∙◌, subst, ⊎_elim, arith}
use Rattle.std.proofs.lemmas.List.{get_or-set_same, get_or-set_other}
use Rattle.std.proofs.lemmas.Bool.{cases_eq}
use Rattle.std.proofs.Math.Decide.{ℕ_discrete}
use Rattle.term.specs.Coding.{word_at}
use Rattle.term.specs.Joins.{Symbol-discrete}
use Rattle.term.specs.Words.{Word, Word-discrete}
use Rattle.term.specs.declared.node.Node.{Node}
use Rattle.term.proofs.Cases.{test-yes, test-no}
use Rattle.subsume.specs.Meeting.{place_of, hash_of}

pub first-place : (nodes : List Node) (w : Word) (p : ℕ) → p < length nodes → word_at nodes p ≡ w → ((q : ℕ) → q < p → word_at nodes q ≡ w → ⊥) → place_of nodes w ≡ p
unfolding place_of
first-place [] w p h is before = absurd (omega arith)
first-place (node ∷ nodes) w zero h is before = test-yes (Word-discrete ℕ_discrete Symbol-discrete (word_at (node ∷ nodes) 0) w) 0 (suc (place_of nodes w)) is
first-place (node ∷ nodes) w (suc p) h is before =
    test-no (Word-discrete ℕ_discrete Symbol-discrete (word_at (node ∷ nodes) 0) w) 0 (suc (place_of nodes w)) (λ e. before 0 (omega arith) e)
    ∙ ap suc (first-place nodes w p (omega arith) is (λ q k e. before (suc q) (omega arith) e))

-- the first places of the words of the first q nodes; and for each hash the first of these places
pub record Seen (P : ℕ) (nodes : List Node) (q : ℕ) (places seen : List ℕ) : Type 0 where
  pub first : (p : ℕ) → p < q → get_or places p 0 ≡ place_of nodes (word_at nodes p)
  pub early : (p : ℕ) → p < q → get_or seen (hash_of (word_at nodes p) % P) 0 ≤ p

pub seen-none : (P : ℕ) (nodes : List Node) (places seen : List ℕ) → Seen P nodes 0 places seen
seen-none P nodes places seen = record { first = λ p h. absurd (omega arith); early = λ p h. absurd (omega arith) }

module _ (P : ℕ) (nodes : List Node) (q : ℕ) (places seen : List ℕ) (inside : q < length nodes) (room : q < length places) (so_far : Seen P nodes q places seen) where
  abbrev w : Word
  w = word_at nodes q

  abbrev h : ℕ
  h = hash_of w % P

  -- a word that stood before has its place
  seen-old : (r : ℕ) → r ≡ place_of nodes w → get_or seen h 0 ≤ q → Seen P nodes (q + 1) (set places q r) seen
  seen-old r is old = record {
    first = λ p k. ⊎_elim
        (λ (e : p ≡ q). subst (λ (x : ℕ). get_or (set places q r) x 0 ≡ place_of nodes (word_at nodes x)) (sym e) (get_or-set_same places q r 0 room ∙ is))
        (λ n. get_or-set_other places q p r 0 n ∙ so_far.first p (omega (arith, n)))
        (cases_eq p q);
    early = λ p k. ⊎_elim
        (λ (e : p ≡ q). subst (λ (x : ℕ). get_or seen (hash_of (word_at nodes x) % P) 0 ≤ x) (sym e) old)
        (λ n. so_far.early p (omega (arith, n)))
        (cases_eq p q);
  }

  -- no word before has this hash
  pub seen-new : h < length seen → q ≤ get_or seen h 0 → Seen P nodes (q + 1) (set places q q) (set seen h q)
  seen-new known new =
      let none : (p : ℕ) → p < q → hash_of (word_at nodes p) % P ≡ h → ⊥ = λ p k e. omega (arith, so_far.early p k, ap (λ (x : ℕ). get_or seen x 0) e, new) in
      let is : q ≡ place_of nodes w = sym (first-place nodes w q inside refl (λ p k e. none p k (ap (λ (x : Word). hash_of x % P) e))) in
      record {
        first = λ p k. ⊎_elim
            (λ (e : p ≡ q). subst (λ (x : ℕ). get_or (set places q q) x 0 ≡ place_of nodes (word_at nodes x)) (sym e) (get_or-set_same places q q 0 room ∙ is))
            (λ n. get_or-set_other places q p q 0 n ∙ so_far.first p (omega (arith, n)))
            (cases_eq p q);
        early = λ p k. ⊎_elim
            (λ (e : p ≡ q). subst (λ (x : ℕ). get_or (set seen h q) (hash_of (word_at nodes x) % P) 0 ≤ x) (sym e) (omega (arith, get_or-set_same seen h q 0 known)))
            (λ n. omega (arith, get_or-set_other seen h (hash_of (word_at nodes p) % P) q 0 (none p (omega (arith, n))), so_far.early p (omega (arith, n))))
            (cases_eq p q);
      }

  -- the first word with this hash is the same
  pub seen-same : (p : ℕ) → p ≡ get_or seen h 0 → p < q → word_at nodes q ≡ word_at nodes p → Seen P nodes (q + 1) (set places q p) seen
  seen-same p is k same =
      seen-old p
      (sym (first-place nodes w p (omega arith) (sym same) (λ r l e. omega (arith, so_far.early r (omega (arith, l)), ap (λ (x : Word). get_or seen (hash_of x % P) 0) e, is))))
      (omega (arith, is))

  pub seen-other : (r : ℕ) → r ≡ place_of nodes w → get_or seen h 0 < q → Seen P nodes (q + 1) (set places q r) seen
  seen-other r is k = seen-old r is (omega (arith, k))
