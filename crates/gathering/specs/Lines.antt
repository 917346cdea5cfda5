-- The lines of a gathering.
use Rattle.std.specs.Prelude.{ℕ, List, [], ◌∷◌, codes}
use Rattle.term.specs.Words.{Word}

-- a place word that was taken where these were taken before
abbrev pub taken_line : List Word → List ℕ
taken_line [] = codes "begun\n"
taken_line (m ∷ ms) = codes "taken\n"
