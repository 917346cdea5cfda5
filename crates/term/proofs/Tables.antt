-- The table of pairs of a join: a pair keeps its variable, and a variable its pair.
use Rattle.std.proofs.Common.{◌≡◌, ℕ, suc, ◌<◌, ◌≤◌, max, [], ◌∷◌, length, get_or, sym, refl, ap, ◌∙◌, ap₂, arith}
use mathlib.Core.Logic.{ite}
use Rattle.term.specs.Words.{Word, var, app, Words, nil, cons, len, sub, subs}
use Rattle.term.specs.Joins.{Table, Same, same_decided, place, enter, alike_decided, join, joins}
use Rattle.term.proofs.Cases.{by-test}

abbrev pub Known : Table → Word → Word → Type 0
Known T u v = place T u v < length T

-- U knows what T knows, under the same variables
pub record Grown (T U : Table) : Type 0 where
  pub longer : length T ≤ length U
  pub keeps : (u v : Word) → Known T u v → place U u v ≡ place T u v

pub grown-itself : (T : Table) → Grown T T
grown-itself T = record { longer = omega arith; keeps = λ u v k. refl }

pub grown-on : {T U V : Table} → Grown T U → Grown U V → Grown T V
grown-on {T} {U} {V} e f =
    record { longer = omega arith; keeps = λ u v k. let i = e.keeps u v k in let h : Known U u v = omega arith in f.keeps u v h ∙ i }

same-pair : {p q : Word × Word} → Same p q → p ≡ q
same-pair s = λ i. (s.0 i, s.1 i)

-- the pair of a variable
read-pair : (T : Table) (u v : Word) (d : Word × Word) → Known T u v → get_or T (place T u v) d ≡ (u, v)
read-pair [] u v d k = absurd (omega arith)
read-pair (p ∷ T) u v d k =
    (elim (same_decided (u, v) p) as (λ e. ite e 0 (suc (place T u v)) < suc (length T) → get_or (p ∷ T) (ite e 0 (suc (place T u v))) d ≡ (u, v))
    [ yes s ↦ λ h. sym (same-pair s) | no n ↦ λ h. read-pair T u v d (omega arith) ]) k

module _ (u v : Word) where
  place-enter : (T : Table) → place (enter T u v) u v ≡ place T u v
  place-enter [] = elim (same_decided (u, v) (u, v)) as (λ e. ◌≡◌ {A = ℕ} (ite e 0 1) 0) [ yes s ↦ refl | no n ↦ absurd (n (refl, refl)) ]
  place-enter (p ∷ T) =
      elim (same_decided (u, v) p) as (λ e. ite e 0 (suc (place (ite e T (enter T u v)) u v)) ≡ ite e 0 (suc (place T u v)))
      [ yes s ↦ refl | no n ↦ ap suc (place-enter T) ]

  pub place-within : (T : Table) → place T u v ≤ length T
  place-within [] = omega arith
  place-within (p ∷ T) = by-test (λ (n : ℕ). n ≤ suc (length T)) (same_decided (u, v) p) (λ _. omega arith) (λ _. omega (arith, place-within T))

  pub length-enter : (T : Table) → length (enter T u v) ≡ max (length T) (suc (place T u v))
  length-enter [] = refl
  length-enter (p ∷ T) =
      elim (same_decided (u, v) p) as (λ e. suc (length (ite e T (enter T u v))) ≡ max (suc (length T)) (suc (ite e 0 (suc (place T u v)))))
      [ yes s ↦ omega arith | no n ↦ omega (arith, length-enter T) ]

  place-stays : (T : Table) (a b : Word) → Known T a b → place (enter T u v) a b ≡ place T a b
  place-stays [] a b k = absurd (omega arith)
  place-stays (p ∷ T) a b k =
      elim (same_decided (u, v) p) as (λ e. place (p ∷ ite e T (enter T u v)) a b ≡ place (p ∷ T) a b) [
        | yes s ↦ refl
        | no n ↦
            (elim (same_decided (a, b) p) as (λ e. ite e 0 (suc (place T a b)) < suc (length T) → ite e 0 (suc (place (enter T u v) a b)) ≡ ite e 0 (suc (place T a b)))
            [ yes s ↦ λ h. refl | no m ↦ λ h. ap suc (place-stays T a b (omega arith)) ]) k
      ]

  grown-enter : (T : Table) → Grown T (enter T u v)
  grown-enter T = record { longer = omega (arith, length-enter T); keeps = place-stays T }

mutual
  pub grown-join : (u v : Word) (T : Table) → Grown T (join u v T).1
  grown-join (var x) v T = grown-enter (var x) v T
  grown-join (app s us) (var y) T = grown-enter (app s us) (var y) T
  grown-join (app s us) (app t vs) T =
      by-test (λ (r : Word × Table). Grown T r.1) (alike_decided s us t vs) (λ _. grown-joins us vs T) (λ _. grown-enter (app s us) (app t vs) T)

  pub grown-joins : (us vs : Words) (T : Table) → Grown T (joins us vs T).1
  grown-joins nil vs T = grown-itself T
  grown-joins (cons u us) nil T = grown-itself T
  grown-joins (cons u us) (cons v vs) T = grown-on (grown-join u v T) (grown-joins us vs (join u v T).1)

module _ (U : Table) where
  -- the two words of each pair
  pub left : ℕ → Word
  left n = (get_or U n (var n, var n)).0

  pub right : ℕ → Word
  right n = (get_or U n (var n, var n)).1

  module _ (u v : Word) (T : Table) (e : Grown (enter T u v) U) where
    pub place-last : place T u v ≡ place U u v
    place-last = let p = place-enter u v T in let k = length-enter u v T in let h : Known (enter T u v) u v = omega arith in sym (e.keeps u v h ∙ p)

    stand-sides : (left (place T u v) ≡ u) × (right (place T u v) ≡ v)
    unfolding left right
    stand-sides =
        let k = length-enter u v T in
        let l = e.longer in
        let p = place-last in
        let r : get_or U (place T u v) (var (place T u v), var (place T u v)) ≡ (u, v) = rw p (read-pair U u v (var (place U u v), var (place U u v)) (omega arith)) in
        (ap (λ (q : Word × Word). q.0) r, ap (λ (q : Word × Word). q.1) r)

  -- the join covers both sides
  mutual
    pub join-sides : (u v : Word) (T : Table) → Grown (join u v T).1 U → (sub left (join u v T).0 ≡ u) × (sub right (join u v T).0 ≡ v)
    join-sides (var x) v T e = stand-sides (var x) v T e
    join-sides (app s us) (var y) T e = stand-sides (app s us) (var y) T e
    join-sides (app s us) (app t vs) T e =
        by-test (λ (r : Word × Table). Grown r.1 U → (sub left r.0 ≡ app s us) × (sub right r.0 ≡ app t vs)) (alike_decided s us t vs)
        (λ a h. let i = joins-sides us vs T a.1 h in (ap (app s) i.0, ap₂ app a.0 i.1))
        (λ _ h. stand-sides (app s us) (app t vs) T h) e

    pub joins-sides : (us vs : Words) (T : Table) → len us ≡ len vs → Grown (joins us vs T).1 U → (subs left (joins us vs T).0 ≡ us) × (subs right (joins us vs T).0 ≡ vs)
    joins-sides nil nil T l e = (refl, refl)
    joins-sides nil (cons v vs) T l e = absurd (omega arith)
    joins-sides (cons u us) nil T l e = absurd (omega arith)
    joins-sides (cons u us) (cons v vs) T l e =
        let i = join-sides u v T (grown-on (grown-joins us vs (join u v T).1) e) in
        let j = joins-sides us vs (join u v T).1 (omega arith) e in
        (ap₂ cons i.0 j.0, ap₂ cons i.1 j.1)
