-- Numbering the variables of a clause from 0 in the order of their first standing.
use Rattle.std.specs.Prelude.{ℕ, suc, List, [], ◌∷◌, fold}
use Rattle.std.proofs.Math.Logic.{ite}
use Rattle.std.proofs.Math.Decide.{ℕ_discrete}
use Rattle.term.specs.Words.{Word}
use Rattle.clauses.specs.Variants.{variables, renamed}

-- numbers in the order of their first standing, with one more: a new one comes last
abbrev pub enlist : List ℕ → ℕ → List ℕ
enlist [] x = x ∷ []
enlist (y ∷ ys) x = y ∷ ite (ℕ_discrete x y) ys (enlist ys x)

-- the place of a number among them
abbrev pub rank : List ℕ → ℕ → ℕ
rank [] x = 0
rank (y ∷ ys) x = ite (ℕ_discrete x y) 0 (suc (rank ys x))

-- each number once, in the order of first standing
abbrev pub firsts : List ℕ → List ℕ
firsts xs = fold enlist [] xs

-- the clause with its variables numbered from 0 in the order of their first standing
abbrev pub renumbered : List Word → List Word
renumbered C = renamed (rank (firsts (variables C))) C
