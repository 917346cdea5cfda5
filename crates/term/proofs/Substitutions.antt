-- Substitutions, and covering among words as a relation.
use Rattle.std.proofs.Common.{◌≡◌, ℕ, suc, ◌<◌, ◌≤◌, sym, refl, ap, ◌∙◌, ap₂, arith}
use Rattle.term.specs.Words.{Word, var, app, Words, nil, cons, len, size, sizes, sub, subs, Covers}

mutual
  pub sub-var : (u : Word) → sub var u ≡ u
  sub-var (var x) = refl
  sub-var (app s us) = ap (app s) (subs-var us)

  pub subs-var : (us : Words) → subs var us ≡ us
  subs-var nil = refl
  subs-var (cons u us) = ap₂ cons (sub-var u) (subs-var us)

module _ (σ θ : ℕ → Word) where
  mutual
    pub sub-sub : (u : Word) → sub σ (sub θ u) ≡ sub (λ x. sub σ (θ x)) u
    sub-sub (var x) = refl
    sub-sub (app s us) = ap (app s) (subs-subs us)

    pub subs-subs : (us : Words) → subs σ (subs θ us) ≡ subs (λ x. sub σ (θ x)) us
    subs-subs nil = refl
    subs-subs (cons u us) = ap₂ cons (sub-sub u) (subs-subs us)

pub len-subs : (θ : ℕ → Word) (us : Words) → len (subs θ us) ≡ len us
len-subs θ nil = refl
len-subs θ (cons u us) = ap suc (len-subs θ us)

pub size-pos : (u : Word) → 0 < size u
size-pos (var x) = omega arith
size-pos (app s us) = omega arith

mutual
  pub size-sub : (θ : ℕ → Word) (u : Word) → size u ≤ size (sub θ u)
  size-sub θ (var x) = omega (arith, size-pos (θ x))
  size-sub θ (app s us) = omega (arith, sizes-subs θ us)

  pub sizes-subs : (θ : ℕ → Word) (us : Words) → sizes us ≤ sizes (subs θ us)
  sizes-subs θ nil = omega arith
  sizes-subs θ (cons u us) = omega (arith, size-sub θ u, sizes-subs θ us)

-- covering is reflexive and transitive, and what covers is no larger
pub covers-itself : (u : Word) → Covers u u
covers-itself u = (var, sub-var u)

pub covers-through : (u v w : Word) → Covers u v → Covers v w → Covers u w
covers-through u v w c d = (λ x. sub d.0 (c.0 x), sym (sub-sub d.0 c.0 u) ∙ ap (sub d.0) c.1 ∙ d.1)

pub covers-size : (u v : Word) → Covers u v → size u ≤ size v
covers-size u v c = omega (arith, size-sub c.0 u, ap size c.1)
