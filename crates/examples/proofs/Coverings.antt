-- Why clauses do not cover.
use Rattle.std.proofs.Common.{[], ◌∷◌, inl, inr, arith}
use Rattle.term.specs.Words.{var}
use Rattle.clauses.specs.Clauses.{Covers}
use Rattle.clauses.proofs.Parts.{contains-none, contains-cases}
use Rattle.examples.specs.Examples.{g, h, not_h}

-- X would have to become X and g(X)
pub one-step : Covers (h (var 0) ∷ not_h (g (var 0)) ∷ []) (h (var 0) ∷ not_h (g (g (var 0))) ∷ []) → ⊥
one-step c =
    let X = var 0 in
    let θ = c.0 in
    let first = c.1 0 X (omega arith) in
    let second = c.1 1 X (omega arith) in
    elim (contains-cases (h X) (h (θ 0)) (not_h (g (g X)) ∷ []) first) [
      | inl e ↦ elim (contains-cases (h X) (not_h (g (θ 0))) (not_h (g (g X)) ∷ []) second) [
        | inl d ↦ cc
        | inr d ↦ elim (contains-cases (not_h (g (g X))) (not_h (g (θ 0))) [] d) [ inl d ↦ cc | inr d ↦ contains-none _ d ]
      ]
      | inr e ↦ elim (contains-cases (not_h (g (g X))) (h (θ 0)) [] e) [ inl d ↦ cc | inr d ↦ contains-none _ d ]
    ]
