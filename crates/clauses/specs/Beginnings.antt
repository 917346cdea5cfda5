-- Where the words of a list begin among their nodes.
use Rattle.std.specs.Prelude.{ℕ, ◌+◌, List, [], ◌∷◌}
use Rattle.term.specs.Words.{Words, nil, cons, size}

-- the first of them begins at `at`
abbrev pub begins : (at : ℕ) → Words → List ℕ
begins at nil = []
begins at (cons u us) = at ∷ begins (at + size u) us
