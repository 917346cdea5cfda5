-- Literals that are narrow enough to be held.
use Rattle.std.specs.Prelude.{◌≤◌}
use Rattle.term.specs.Lawful.{Narrows}
use Rattle.term.specs.Words.{Word, var, app, len}
use Rattle.term.specs.declared.node.Symbol.{Symbol}

-- a symbol with S over at most 8 words, in which no predicate stands, no symbol is above 32,767 and none has more than
-- 8 places
abbrev pub NarrowOver : (Symbol → Type 0) → Word → Type 0
NarrowOver S (var x) = ⊥
NarrowOver S (app s us) = S s × (len us ≤ 8) × Narrows us
