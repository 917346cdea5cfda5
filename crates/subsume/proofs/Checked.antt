-- Literals matched one after the other.
use Rattle.std.proofs.Common.{◌≡◌, ℕ, ◌+◌, ◌<◌, List, length, get_or, replicate, Some, None, sym, subst, ⊎_elim, arith}
use Rattle.std.proofs.lemmas.Bool.{cases_eq}
use Rattle.term.specs.Matched.{Bindings, Placed, Agrees, Matched}
use Rattle.term.specs.Words.{Word}
use Rattle.term.specs.declared.node.Node.{Node}
use Rattle.term.proofs.Matchings.{none-placed, none-agrees, agreeing}
use Rattle.subsume.specs.Solving.{TurnsAt, Works}

module _ (N : List Node) (S : List ℕ) (M : List Node) (T : List ℕ) (f : ℕ → ℕ) where
  -- just those substitutions agree with the bindings that turn the first i literals as chosen
  pub record Bound (i : ℕ) (bound : Bindings) : Type 0 where
    pub placed : Placed M bound
    pub back : (θ : ℕ → Word) → Agrees M bound θ → (k : ℕ) → k < i → TurnsAt N S M T θ k (f k)
    pub on : (θ : ℕ → Word) → ((k : ℕ) → k < i → TurnsAt N S M T θ k (f k)) → Agrees M bound θ

  pub bound-none : (v : ℕ) → Bound 0 (replicate v None)
  bound-none v = record { placed = none-placed M v; back = λ θ a k h. absurd (omega arith); on = λ θ t. none-agrees M v θ }

  module _ (i : ℕ) (before after : Bindings) (g : Bound i before) where
    pub bound-more : (e : ℕ × ℕ) → Matched N (get_or S i 0) M (get_or T (f i) 0) before (Some e) after → Bound (i + 1) after
    bound-more e m = record {
      placed = m.2.placed;
      back = λ θ a k h.
          let b = m.2.back θ a in
          ⊎_elim (λ (s : k ≡ i). subst (λ (n : ℕ). TurnsAt N S M T θ n (f n)) (sym s) b.1) (λ n. g.back θ b.0 k (omega (arith, n))) (cases_eq k i);
      on = λ θ t. m.2.on θ (g.on θ (λ k h. t k (omega arith))) (t i (omega arith));
    }

    pub bound-never : i < length S → Matched N (get_or S i 0) M (get_or T (f i) 0) before None after → Works N S M T f → ⊥
    bound-never h m w = m w.0 (g.on w.0 (λ k k<. w.1 k (omega arith))) (w.1 i h)

  pub bound_all : (bound : Bindings) → Bound (length S) bound → Works N S M T f
  bound_all bound g = let a = agreeing M bound in (a.0, λ i h. g.back a.0 a.1 i h)
