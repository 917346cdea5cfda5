-- No clause that says the same is smaller than a tidy one.
use Rattle.std.proofs.Common.{◌≡◌, ℕ, ◌≤◌, ◌≢◌, List, length, remove, AllPairs, Contains, sum_by, inl, inr, sym, refl, ap, ◌∙◌, subst, arith}
use Rattle.std.proofs.Math.Decide.{ℕ_discrete}
use Rattle.term.specs.Joins.{Symbol-discrete}
use Rattle.term.specs.Words.{Word, size, sub, Word-discrete}
use Rattle.term.proofs.Substitutions.{sub-sub, size-sub}
use Rattle.clauses.specs.Clauses.{Covers}
use Rattle.clauses.specs.Reduction.{Tidy}
use Rattle.clauses.proofs.Parts.{All-from, removed-cases}
use Rattle.clauses.proofs.Counts.{Apart, apart-from, ones, partners, onto-apart, pairs_apart, found}
use Rattle.clauses.proofs.Coverings.{takes, covers-part, covers-through}

pub same-word : Discrete Word
same-word = Word-discrete ℕ_discrete Symbol-discrete

-- a literal without which the rest is not covered
module _ (C : List Word) (m : Word) (i : Contains C m) (needed : Covers C (remove C i.0) → ⊥) where
  -- stands once
  pub stands-once : Contains (remove C i.0) m → ⊥
  stands-once c =
      needed
      (covers-part C (remove C i.0) (All-from (Contains (remove C i.0)) C
      (λ l j. elim (removed-cases C m l i j) [ inl e ↦ subst (Contains (remove C i.0)) e c | inr k ↦ k ])))

  -- is reached by what takes the clause into itself
  pub reached : (c : Covers C C) → (l : Word) × Contains C l × (sub c.0 l ≡ m)
  reached c =
      elim (found same-word (sub c.0) m C) [
        | inl r ↦ r
        | inr none ↦ absurd (needed (
          c.0,
          All-from (λ l. Contains (remove C i.0) (sub c.0 l)) C
              (λ l j. elim (removed-cases C m (sub c.0 l) i (takes C C c l j)) [ inl e ↦ absurd (none l j (sym e)) | inr k ↦ k ]),
        ))
      ]

module _ (C : List Word) (t : Tidy C) where
  -- no literal stands twice
  pub tidy-once : (l : Word) (i : Contains C l) → Contains (remove C i.0) l → ⊥
  tidy-once l i = stands-once C l i (t i.0 i.1)

  pub tidy-apart : Apart C
  tidy-apart = apart-from C tidy-once

  pub tidy-distinct : AllPairs (λ l m. l ≢ m) C
  tidy-distinct = pairs_apart C tidy-apart

  -- what takes it into itself takes it onto itself
  pub tidy-onto : (c : Covers C C) (m : Word) → Contains C m → (l : Word) × Contains C l × (sub c.0 l ≡ m)
  tidy-onto c m i = reached C m i (t i.0 i.1) c

  module _ (E : List Word) (c : Covers C E) (d : Covers E C) where
    pub tidy-one-to-one : (l m : Word) → Contains C l → Contains C m → sub c.0 l ≡ sub c.0 m → l ≡ m
    unfolding covers-through
    tidy-one-to-one l m i j e =
        let both = covers-through C E C c d in
        onto-apart same-word (sub both.0) C C tidy-apart (tidy-onto both) (omega arith) l m i j
        (sym (sub-sub d.0 c.0 l) ∙ ap (sub d.0) e ∙ sub-sub d.0 c.0 m)

    pub least-sum : (w : Word → ℕ) → ((θ : ℕ → Word) (u : Word) → w u ≤ w (sub θ u)) → sum_by w C ≤ sum_by w E
    least-sum w grows =
        partners w w (λ l m. sub c.0 l ≡ m) (λ l m e. subst (λ k. w l ≤ w k) e (grows c.0 l)) C E tidy-apart
        (λ l i. (sub c.0 l, takes C E c l i, refl)) (λ l m k i j p q. tidy-one-to-one l m i j (p ∙ sym q))

-- a tidy clause has the fewest literals and the fewest nodes
pub tidy-fewest : (C E : List Word) → Tidy C → Covers C E → Covers E C → length C ≤ length E
tidy-fewest C E t c d = omega (arith, ones C, ones E, least-sum C t E c d (λ _. 1) (λ θ u. omega arith))

pub tidy-smallest : (C E : List Word) → Tidy C → Covers C E → Covers E C → sum_by size C ≤ sum_by size E
tidy-smallest C E t c d = least-sum C t E c d size size-sub
