-- What a join keeps: its variables are numbered as they first stand, and it is no wider than its sides.
use Rattle.std.proofs.Common.{◌≡◌, ℕ, List, [], ◌∷◌, ◌++◌, length, sym, refl, ap, ◌∙◌, subst, arith}
use Rattle.term.specs.Words.{Word, var, app, Words, nil, cons, vars, varss}
use Rattle.term.specs.Joins.{Table, alike_decided, place, enter, join, joins}
use Rattle.term.specs.Lawful.{Numbered, stood, Narrow, Narrows}
use Rattle.term.proofs.Cases.{by-test}
use Rattle.term.proofs.Tables.{place-within, length-enter}
use Rattle.term.proofs.Laws.{numbered_more, stood-more}
use Rattle.term.proofs.Joinings.{len-joins}

-- the variables xs are numbered from T on, and U has stood after them
pub record Runs (T U : Table) (xs : List ℕ) : Type 0 where
  pub order : Numbered (length T) xs
  pub last : stood (length T) xs ≡ length U

runs-stand : (u v : Word) (T : Table) → Runs T (enter T u v) (place T u v ∷ [])
runs-stand u v T = record { order = (place-within u v T, tt); last = sym (length-enter u v T) }

pub runs-more : (T U V : Table) (xs ys : List ℕ) → Runs T U xs → Runs U V ys → Runs T V (xs ++ ys)
runs-more T U V xs ys p q = record {
  order = numbered_more (length T) xs ys p.order (subst (λ (n : ℕ). Numbered n ys) (sym p.last) q.order);
  last = stood-more (length T) xs ys ∙ ap (λ (n : ℕ). stood n ys) p.last ∙ q.last;
}

mutual
  pub runs-join : (u v : Word) (T : Table) → Runs T (join u v T).1 (vars (join u v T).0)
  runs-join (var x) v T = runs-stand (var x) v T
  runs-join (app s us) (var y) T = runs-stand (app s us) (var y) T
  runs-join (app s us) (app t vs) T =
      by-test (λ (r : Word × Table). Runs T r.1 (vars r.0)) (alike_decided s us t vs) (λ _. runs-joins us vs T) (λ _. runs-stand (app s us) (app t vs) T)

  runs-joins : (us vs : Words) (T : Table) → Runs T (joins us vs T).1 (varss (joins us vs T).0)
  runs-joins nil vs T = record { order = tt; last = refl }
  runs-joins (cons u us) nil T = record { order = tt; last = refl }
  runs-joins (cons u us) (cons v vs) T =
      runs-more T (join u v T).1 (joins us vs (join u v T).1).1 (vars (join u v T).0) (varss (joins us vs (join u v T).1).0) (runs-join u v T) (runs-joins us vs (join u v T).1)

pub join-numbered : (u v : Word) → Numbered 0 (vars (join u v []).0)
join-numbered u v = (runs-join u v []).order

mutual
  pub join-narrow : (u v : Word) (T : Table) → Narrow u → Narrow (join u v T).0
  join-narrow (var x) v T n = tt
  join-narrow (app s us) (var y) T n = tt
  join-narrow (app s us) (app t vs) T n =
      by-test (λ (r : Word × Table). Narrow r.0) (alike_decided s us t vs) (λ a. (n.0, omega (arith, n.1, len-joins us vs T a.1), joins-narrow us vs T n.2)) (λ _. tt)

  pub joins-narrow : (us vs : Words) (T : Table) → Narrows us → Narrows (joins us vs T).0
  joins-narrow nil vs T n = tt
  joins-narrow (cons u us) nil T n = tt
  joins-narrow (cons u us) (cons v vs) T n = (join-narrow u v T n.0, joins-narrow us vs (join u v T).1 n.1)
