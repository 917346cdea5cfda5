-- The join of two words is least over both.
use Rattle.std.proofs.Common.{◌≡◌, ℕ, [], sym, refl, ap, ◌∙◌, ap₂}
use mathlib.Core.Logic.{ite}
use Rattle.term.specs.Words.{Word, var, app, Words, nil, cons, sub, subs, Covers}
use Rattle.term.specs.Joins.{Table, place, alike_decided, join, joins}
use Rattle.term.proofs.Cases.{by-test-both, test-yes}
use Rattle.term.proofs.Substitutions.{len-subs}
use Rattle.term.proofs.Tables.{Grown, grown-itself, grown-on, grown-joins, place-last, left, right, join-sides}

-- the join over a numbering of all pairs of words
module _ (ν : Word → Word → ℕ) where
  abbrev mutual
    numbered-join : Word → Word → Word
    numbered-join (var x) v = var (ν (var x) v)
    numbered-join (app s us) (var y) = var (ν (app s us) (var y))
    numbered-join (app s us) (app t vs) = ite (alike_decided s us t vs) (app s (numbered-joins us vs)) (var (ν (app s us) (app t vs)))

    numbered-joins : Words → Words → Words
    numbered-joins nil vs = nil
    numbered-joins (cons u us) nil = nil
    numbered-joins (cons u us) (cons v vs) = cons (numbered-join u v) (numbered-joins us vs)

  -- what takes t to two words takes t to their join
  module _ (θ σ : ℕ → Word) where
    mutual
      join-sub : (t : Word) → numbered-join (sub θ t) (sub σ t) ≡ sub (λ x. numbered-join (θ x) (σ x)) t
      join-sub (var x) = refl
      join-sub (app s us) = test-yes (alike_decided s (subs θ us) s (subs σ us)) _ _ (refl, len-subs θ us ∙ sym (len-subs σ us)) ∙ ap (app s) (joins-subs us)

      joins-subs : (ts : Words) → numbered-joins (subs θ ts) (subs σ ts) ≡ subs (λ x. numbered-join (θ x) (σ x)) ts
      joins-subs nil = refl
      joins-subs (cons t ts) = ap₂ cons (join-sub t) (joins-subs ts)

-- the join over a table is the join over the numbering of the last table
module _ (U : Table) where
  mutual
    by_last : (u v : Word) (T : Table) → Grown (join u v T).1 U → (join u v T).0 ≡ numbered-join (place U) u v
    by_last (var x) v T e = ap var (place-last U (var x) v T e)
    by_last (app s us) (var y) T e = ap var (place-last U (app s us) (var y) T e)
    by_last (app s us) (app t vs) T e =
        by-test-both (λ (r : Word × Table) (w : Word). Grown r.1 U → r.0 ≡ w) (alike_decided s us t vs)
        (λ _ h. ap (app s) (all-by-last us vs T h)) (λ _ h. ap var (place-last U (app s us) (app t vs) T h)) e

    all-by-last : (us vs : Words) (T : Table) → Grown (joins us vs T).1 U → (joins us vs T).0 ≡ numbered-joins (place U) us vs
    all-by-last nil vs T e = refl
    all-by-last (cons u us) nil T e = refl
    all-by-last (cons u us) (cons v vs) T e =
        ap₂ cons (by_last u v T (grown-on (grown-joins us vs (join u v T).1) e)) (all-by-last us vs (join u v T).1 e)

module _ (u v : Word) where
  last : Table
  last = (join u v []).1

  pub join-left : Covers (join u v []).0 u
  unfolding last
  join-left = (left last, (join-sides last u v [] (grown-itself last)).0)

  pub join-right : Covers (join u v []).0 v
  unfolding last
  join-right = (right last, (join-sides last u v [] (grown-itself last)).1)

  pub join-least : (t : Word) → Covers t u → Covers t v → Covers t (join u v []).0
  unfolding last
  join-least t c d = (
    λ x. numbered-join (place last) (c.0 x) (d.0 x),
    sym (join-sub (place last) c.0 d.0 t) ∙ ap₂ (numbered-join (place last)) c.1 d.1 ∙ sym (by_last last u v [] (grown-itself last)),
  )
