-- Clauses that are the same but for the names of their variables.
use Rattle.std.specs.Prelude.{◌≡◌, ℕ, List, All, Contains, map, flat_map}
use Rattle.term.specs.Words.{Word, var, vars, sub}

-- the variables in written order, each as often as it stands
abbrev pub variables : List Word → List ℕ
variables C = flat_map vars C

-- another variable in the place of each
abbrev pub renamed : (ℕ → ℕ) → List Word → List Word
renamed r C = map (sub (λ x. var (r x))) C

-- the same set of literals
abbrev pub SameSet : List Word → List Word → Type 0
SameSet C D = All (Contains D) C × All (Contains C) D

-- replacing distinct variables by distinct variables turns C into D
pub record Variant (C D : List Word) : Type 0 where
  pub renaming : ℕ → ℕ
  pub apart : (x y : ℕ) → Contains (variables C) x → Contains (variables C) y → renaming x ≡ renaming y → x ≡ y
  pub same : SameSet (renamed renaming C) D
