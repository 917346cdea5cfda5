-- Clauses of any size: finite sets of literals, written as lists; and which covers which.
use Rattle.std.specs.Prelude.{ℕ, List, [], ◌∷◌, All, Contains, map}
use Rattle.term.specs.Coding.{word_at}
use Rattle.term.specs.Words.{Word, var, app, Words, nil, cons, sub}
use Rattle.term.specs.declared.node.Node.{Node}
use Rattle.term.specs.declared.node.Symbol.TheVariants.{Function, Positive, Negative}

-- a literal is a predicate with its sign over words
abbrev pub Literal : Word → Type 0
Literal (var x) = ⊥
Literal (app (Function f) us) = ⊥
Literal (app (Positive p) us) = Unit {0}
Literal (app (Negative p) us) = Unit {0}

-- some substitution turns each literal of the one into a literal of the other (subsumption)
abbrev pub Covers : (one other : List Word) → Type 0
Covers one other = (θ : ℕ → Word) × All (λ l. Contains other (sub θ l)) one

-- the literals that begin at these places
abbrev pub literals_at : List Node → (starts : List ℕ) → List Word
literals_at nodes starts = map (word_at nodes) starts

-- words as a list
abbrev pub each : Words → List Word
each nil = []
each (cons u us) = u ∷ each us
