-- A choice that works is what covering asks for.
use Rattle.std.proofs.Common.{◌≡◌, ℕ, ◌<◌, Bool, true, false, List, length, get_or, Contains, Decides, sym, ap, ◌∙◌, refl, ⊎_elim, arith}
use Rattle.std.proofs.lemmas.List.{get_or-map, get_or_default, length-map}
use Rattle.std.proofs.lemmas.List.Elements.{All-map}
use Rattle.std.proofs.lemmas.Bool.{cases_lt}
use Rattle.term.specs.Coding.{word_at}
use Rattle.term.specs.Words.{Word, var, sub}
use Rattle.term.specs.declared.node.Node.{Node}
use Rattle.clauses.specs.Clauses.{Covers, literals_at}
use Rattle.subsume.specs.declared.bits.BitSet.{BitSet}
use Rattle.subsume.specs.Solving.{TurnsAt, Solved, Hopeful, Spared}

module _ (N : List Node) (S : List ℕ) (M : List Node) (T : List ℕ) where
  pub solved-covers : Solved N S M T → Covers (literals_at N S) (literals_at M T)
  solved-covers s =
      let f = s.0 in
      let θ = s.2.0 in (
        θ,
        All-map (λ l. Contains (literals_at M T) (sub θ l)) (word_at N) S (λ i d h.
            let at : get_or S i 0 ≡ get_or S i d = get_or_default S i 0 d h in
            let l : Word = sub θ (word_at N (get_or S i d)) in
            let here : get_or (literals_at M T) (f i) l ≡ l = get_or-map (word_at M) T (f i) 0 l (s.1 i h) ∙ sym (s.2.1 i h) ∙ ap (λ (p : ℕ). sub θ (word_at N p)) at in
            (f i, omega (arith, length-map T (word_at M), s.1 i h), here)),
      )

  -- the target of each literal
  target : (c : Covers (literals_at N S) (literals_at M T)) (i : ℕ) → i < length S → (j : ℕ) × (j < length T) × TurnsAt N S M T c.0 i j
  target c i h =
      let l : Word = get_or (literals_at N S) i (var 0) in
      let same : l ≡ word_at N (get_or S i 0) = get_or-map (word_at N) S i 0 (var 0) h in
      let t : Contains (literals_at M T) (sub c.0 l) = c.1 i (var 0) (omega (arith, length-map S (word_at N), h)) in
      let inside : t.0 < length T = omega (arith, length-map T (word_at M), t.1) in (
        t.0,
        inside,
        ap (sub c.0) (sym same) ∙ sym t.2 ∙ get_or-map (word_at M) T t.0 0 (sub c.0 l) inside,
      )

  -- for each number a target, which is right where the number is a literal's
  choice : (c : Covers (literals_at N S) (literals_at M T)) (i : ℕ) → (j : ℕ) × (i < length S → (j < length T) × TurnsAt N S M T c.0 i j)
  choice c i =
      ⊎_elim (λ h. let t = target c i h in (t.0, λ _. (t.1, t.2))) (λ n. (0, λ h. absurd (omega (arith, n, h)))) (cases_lt i (length S))

  pub covers-solved : Covers (literals_at N S) (literals_at M T) → Solved N S M T
  covers-solved c = (λ i. (choice c i).0, λ i h. ((choice c i).1 h).0, (c.0, λ i h. ((choice c i).1 h).1))

  -- the search decides covering, where every choice that works is left
  pub searched-decides : (sets : List (BitSet 4)) (r : Bool) → Spared N S M T sets → (r ≡ true → Solved N S M T) → (r ≡ false → Hopeful N S M T sets → ⊥)
      → Decides r (Covers (literals_at N S) (literals_at M T))
  searched-decides sets r spared found none = (
    λ e. solved-covers (found e),
    λ c. let s = covers-solved c in elim (r) as (λ b. (b ≡ false → Hopeful N S M T sets → ⊥) → b ≡ true) [
      | true ↦ λ _. refl
      | false ↦ λ n. absurd (n refl (s.0, spared s.0 s.1 s.2, s.2))
    ] none,
  )
