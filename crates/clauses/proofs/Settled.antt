-- The join of two words over a table that has all their pairs.
use Rattle.std.proofs.Common.{◌≡◌, ℕ, suc, ◌<◌, length, ◌∷◌, [], sym, refl, ap, ◌∙◌, ap₂, arith}
use Rattle.term.specs.Words.{Word, var, app, Words, nil, cons, sub, subs}
use Rattle.term.specs.Joins.{Table, same_decided, place, enter, stand, alike_decided, join, joins}
use Rattle.term.proofs.Cases.{by-test-both}
use Rattle.term.proofs.Substitutions.{len-subs}
use Rattle.term.proofs.Tables.{Grown, grown-on, grown-joins, length-enter, place-last}

enter-known : (T : Table) (u v : Word) → place T u v < length T → enter T u v ≡ T
enter-known [] u v h = absurd (omega arith)
enter-known (p ∷ T) u v h =
    by-test-both (λ (n : ℕ) (U : Table). n < suc (length T) → ◌≡◌ {A = Table} (p ∷ U) (p ∷ T)) (same_decided (u, v) p)
    (λ _ _. refl) (λ _ k. ap (λ (U : Table). p ∷ U) (enter-known T u v (omega arith))) h

module _ (U : Table) where
  settled-stand : (u v : Word) (T : Table) → Grown (enter T u v) U → stand u v U ≡ ((stand u v T).0, U)
  settled-stand u v T e =
      let p = place-last U u v T e in
      let k = length-enter u v T in
      let l = e.longer in
      ap₂ {C = Word × Table} (λ (n : ℕ) (V : Table). (var n, V)) (sym p) (enter-known U u v (omega arith))

  mutual
    pub settled : (u v : Word) (T : Table) → Grown (join u v T).1 U → join u v U ≡ ((join u v T).0, U)
    settled (var x) v T e = settled-stand (var x) v T e
    settled (app s us) (var y) T e = settled-stand (app s us) (var y) T e
    settled (app s us) (app t vs) T e =
        by-test-both (λ (r q : Word × Table). Grown r.1 U → q ≡ (r.0, U)) (alike_decided s us t vs)
        (λ _ h. ap (λ (r : Words × Table). (app s r.0, r.1)) (all-settled us vs T h)) (λ _ h. settled-stand (app s us) (app t vs) T h) e

    all-settled : (us vs : Words) (T : Table) → Grown (joins us vs T).1 U → joins us vs U ≡ ((joins us vs T).0, U)
    all-settled nil vs T e = refl
    all-settled (cons u us) nil T e = refl
    all-settled (cons u us) (cons v vs) T e =
        ap (λ (r : Word × Table). let s = joins us vs r.1 in (cons r.0 s.0, s.1)) (settled u v T (grown-on (grown-joins us vs (join u v T).1) e))
        ∙ ap (λ (s : Words × Table). (cons (join u v T).0 s.0, s.1)) (all-settled us vs (join u v T).1 e)

  -- what turns t into two words turns it into their join
  module _ (θ σ : ℕ → Word) where
    abbrev pub meets : ℕ → Word
    meets x = (join (θ x) (σ x) U).0

    mutual
      pub settled-sub : (t : Word) (T : Table) → Grown (join (sub θ t) (sub σ t) T).1 U → join (sub θ t) (sub σ t) U ≡ (sub meets t, U)
      settled-sub (var x) T e = let p = settled (θ x) (σ x) T e in p ∙ ap (λ (r : Word × Table). (r.0, U)) (sym p)
      settled-sub (app s us) T e =
          by-test-both (λ (r q : Word × Table). Grown r.1 U → q ≡ (app s (subs meets us), U)) (alike_decided s (subs θ us) s (subs σ us))
          (λ _ h. ap (λ (r : Words × Table). (app s r.0, r.1)) (all-settled-sub us T h))
          (λ n _. absurd (n (refl, len-subs θ us ∙ sym (len-subs σ us)))) e

      all-settled-sub : (ts : Words) (T : Table) → Grown (joins (subs θ ts) (subs σ ts) T).1 U → joins (subs θ ts) (subs σ ts) U ≡ (subs meets ts, U)
      all-settled-sub nil T e = refl
      all-settled-sub (cons t ts) T e =
          let R = join (sub θ t) (sub σ t) T in
          ap (λ (r : Word × Table). let s = joins (subs θ ts) (subs σ ts) r.1 in (cons r.0 s.0, s.1))
          (settled-sub t T (grown-on (grown-joins (subs θ ts) (subs σ ts) R.1) e))
          ∙ ap (λ (s : Words × Table). (cons (sub meets t) s.0, s.1)) (all-settled-sub ts R.1 e)
