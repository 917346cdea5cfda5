-- The raw join of two clauses: a literal for each two that fit.
use Rattle.std.specs.Prelude.{List, [], ◌∷◌, ◌++◌}
use Rattle.std.proofs.Math.Logic.{ite}
use Rattle.term.specs.Joins.{Table, Alike, alike_decided, join}
use Rattle.term.specs.Words.{Word, var, app}

-- two literals fit if they have the same predicate, sign and count of places
abbrev pub Fit : Word → Word → Type 0
Fit (var x) m = ⊥
Fit (app s us) (var y) = ⊥
Fit (app s us) (app t vs) = Alike s us t vs

-- whether two literals fit
unfoldable pub fit_decided : (l m : Word) → Dec (Fit l m)
fit_decided (var x) m = no (λ h. h)
fit_decided (app s us) (var y) = no (λ h. h)
fit_decided (app s us) (app t vs) = alike_decided s us t vs

-- a literal joined with each of a clause that it fits, one after the other, where T is the table before
abbrev pub row : Word → List Word → Table → List Word × Table
row l [] T = ([], T)
row l (m ∷ D) T = ite (fit_decided l m) (let r = join l m T in let s = row l D r.1 in (r.0 ∷ s.0, s.1)) (row l D T)

-- each literal of a clause joined with each of another that it fits, in order
abbrev pub rows : List Word → List Word → Table → List Word × Table
rows [] D T = ([], T)
rows (l ∷ C) D T = let r = row l D T in let s = rows C D r.1 in (r.0 ++ s.0, s.1)

-- the raw join, with one table of ordered pairs for the whole clause
abbrev pub raw : List Word → List Word → List Word
raw C D = (rows C D []).0
