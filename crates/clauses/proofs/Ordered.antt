-- The raw join numbers its variables by first standing.
use Rattle.std.proofs.Common.{List, [], ◌∷◌, sym, refl, subst}
use Rattle.std.proofs.lemmas.Grind.{flat_map-append}
use Rattle.term.specs.Joins.{Table, join}
use Rattle.term.specs.Lawful.{Numbered}
use Rattle.term.specs.Words.{Word, vars}
use Rattle.term.proofs.Cases.{by-test}
use Rattle.term.proofs.Kept.{Runs, runs-more, runs-join}
use Rattle.clauses.specs.Joins.{fit_decided, row, rows, raw}
use Rattle.clauses.specs.Variants.{variables}

runs-row : (l : Word) (D : List Word) (T : Table) → Runs T (row l D T).1 (variables (row l D T).0)
runs-row l [] T = record { order = tt; last = refl }
runs-row l (m ∷ D) T =
    let r = join l m T in
    let s = row l D r.1 in
    by-test (λ (r : List Word × Table). Runs T r.1 (variables r.0)) (fit_decided l m)
    (λ _. runs-more T r.1 s.1 (vars r.0) (variables s.0) (runs-join l m T) (runs-row l D r.1)) (λ _. runs-row l D T)

runs-rows : (C D : List Word) (T : Table) → Runs T (rows C D T).1 (variables (rows C D T).0)
runs-rows [] D T = record { order = tt; last = refl }
runs-rows (l ∷ C) D T =
    let r = row l D T in
    let s = rows C D r.1 in
    subst (Runs T s.1) (sym (flat_map-append vars r.0 s.0)) (runs-more T r.1 s.1 (variables r.0) (variables s.0) (runs-row l D T) (runs-rows C D r.1))

pub raw-numbered : (C D : List Word) → Numbered 0 (variables (raw C D))
raw-numbered C D = (runs-rows C D []).order
