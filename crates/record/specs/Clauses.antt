-- Clauses: lists of literals, read as sets, and which of them a record can hold.
use Rattle.std.specs.Prelude.{◌≡◌, ℕ, ◌≤◌, Bool, true, false, not, ◌&&◌, List, [], ◌∷◌, nat_le}
use Rattle.std.proofs.Math.Logic.{ite}
use Rattle.std.proofs.Math.Decide.{ℕ_discrete}
use Rattle.term.specs.Coding.{codes, decode}
use Rattle.term.specs.Joins.{Symbol-discrete}
use Rattle.term.specs.Lawful.{lawful, Numbered, stood, Narrows}
use Rattle.term.specs.Words.{Word, var, app, Words, nil, cons, len, sizes, varss, Word-discrete}
use Rattle.term.specs.declared.node.Node.{Node}
use Rattle.term.specs.declared.node.Node.TheVariants.{Variable, Applied}
use Rattle.term.specs.declared.node.Symbol.{Symbol}
use Rattle.term.specs.declared.node.Symbol.TheVariants.{Function, Positive, Negative}

-- a predicate with its sign, up to 32,767
abbrev pub predicative : Symbol → Bool
predicative (Function f) = false
predicative (Positive p) = nat_le p 32767
predicative (Negative p) = nat_le p 32767

-- a literal is a predicate with its sign over at most 8 words
abbrev pub Literal : Word → Type 0
Literal (var x) = ⊥
Literal (app s us) = (predicative s ≡ true) × (len us ≤ 8) × Narrows us

abbrev pub Literals : Words → Type 0
Literals nil = Unit {0}
Literals (cons l ls) = Literal l × Literals ls

-- how many variables stand in words that number them by first standing
abbrev pub variables : Words → ℕ
variables us = stood 0 (varss us)

-- whether a word is one of others
unfoldable pub stands : Word → Words → Bool
stands w nil = false
stands w (cons u us) = ite (Word-discrete ℕ_discrete Symbol-discrete w u) true (stands w us)

-- no word stands twice
unfoldable pub distinct : Words → Bool
distinct nil = true
distinct (cons u us) = not (stands u us) && distinct us

-- what a record holds: at most 16 literals and 256 nodes, no literal twice, variables numbered from 0 in the order of
-- their first standing
pub record Clause (ls : Words) : Type 0 where
  pub few : len ls ≤ 16
  pub small : sizes ls ≤ 256
  pub literals : Literals ls
  pub order : Numbered 0 (varss ls)
  pub apart : distinct ls ≡ true

-- the same as tests: each symbol has all its places; and the words are literals, where the variables below `seen` have
-- stood before
unfoldable pub whole : List Node → Bool
whole [] = true
whole (Variable x ∷ nodes) = whole nodes
whole (Applied s k ∷ nodes) = nat_le k (len (decode nodes)) && whole nodes

unfoldable pub clausal : Words → (seen : ℕ) → Bool
clausal nil seen = true
clausal (cons (var x) ls) seen = false
clausal (cons (app s us) ls) seen = (predicative s && nat_le (len us) 8) && (lawful (codes us) (len us) seen && clausal ls (stood seen (varss us)))
