-- Which nodes are words that can be held: each symbol with all its places, at most 8 of them, symbols up to 32,767,
-- and variables numbered from 0 in the order of their first standing.
use Rattle.std.specs.Prelude.{◌≡◌, ℕ, suc, ◌+◌, ◌-◌, ◌≤◌, max, Bool, true, false, ◌&&◌, List, [], ◌∷◌, ◌==◌, nat_le, nat_lt}
use Rattle.term.specs.declared.node.Node.{Node}
use Rattle.term.specs.declared.node.Node.TheVariants.{Variable, Applied}
use Rattle.term.specs.declared.node.Symbol.{Symbol}
use Rattle.term.specs.declared.node.Symbol.TheVariants.{Function, Positive, Negative}
use Rattle.term.specs.Words.{Word, var, app, Words, nil, cons, len}

-- a symbol that stands inside a word
abbrev pub functional : Symbol → Bool
functional (Function f) = nat_le f 32767
functional (Positive p) = false
functional (Negative p) = false

-- the nodes are as many words as are needed, where the variables below `seen` have stood before
unfoldable pub lawful : List Node → (need seen : ℕ) → Bool
lawful [] need seen = need == 0
lawful (Variable x ∷ nodes) need seen = nat_lt 0 need && (nat_le x seen && lawful nodes (need - 1) (max seen (suc x)))
lawful (Applied s k ∷ nodes) need seen = nat_lt 0 need && ((functional s && nat_le k 8) && lawful nodes (need - 1 + k) seen)

-- each number is one that stood before, or the next, where those below n stood before
abbrev pub Numbered : ℕ → List ℕ → Type 0
Numbered n [] = Unit {0}
Numbered n (x ∷ xs) = (x ≤ n) × Numbered (max n (suc x)) xs

-- how many stood after them
abbrev pub stood : ℕ → List ℕ → ℕ
stood n [] = n
stood n (x ∷ xs) = stood (max n (suc x)) xs

-- no predicate stands inside the word, no symbol is above 32,767, and none has more than 8 places
abbrev mutual
  pub Narrow : Word → Type 0
  Narrow (var x) = Unit {0}
  Narrow (app s us) = (functional s ≡ true) × (len us ≤ 8) × Narrows us

  pub Narrows : Words → Type 0
  Narrows nil = Unit {0}
  Narrows (cons u us) = Narrow u × Narrows us
