-- How a witness is written into a list.
use Rattle.std.specs.Prelude.{ℕ, ◌+◌, cond, List, [], ◌∷◌, slice_set, ◌==◌}

-- of each pair whose variable is the next one the node is written into the list, after the `seen` entries that are written
-- before: how many are then, and the list
abbrev pub noted : List (ℕ × ℕ) → (seen : ℕ) → List ℕ → ℕ × List ℕ
noted [] seen list = (seen, list)
noted (p ∷ ps) seen list = cond (p.0 == seen) (noted ps (seen + 1) (slice_set list seen p.1)) (noted ps seen list)
