-- Words as a clause.
use Rattle.std.proofs.Common.{◌≡◌, ℕ, suc, List, ◌++◌, length, sum_by, refl, ap, arith}
use Rattle.std.proofs.lemmas.List.Sums.{sum_by-cons}
use Rattle.term.specs.Words.{Words, nil, cons, len, size, sizes, vars, varss}
use Rattle.clauses.specs.Clauses.{each}
use Rattle.clauses.specs.Variants.{variables}

pub length-each : (us : Words) → length (each us) ≡ len us
length-each nil = refl
length-each (cons u us) = ap suc (length-each us)

pub size-each : (us : Words) → sum_by size (each us) ≡ sizes us
size-each nil = refl
size-each (cons u us) = omega (arith, sum_by-cons size u (each us), size-each us)

pub variables-each : (us : Words) → variables (each us) ≡ varss us
variables-each nil = refl
variables-each (cons u us) = ap (λ (l : List ℕ). vars u ++ l) (variables-each us)
