-- Words as nodes in preorder, one after the other.
use Rattle.std.specs.Prelude.{◌≡◌, ℕ, zero, suc, ◌<◌, ◌≤◌, List, [], ◌∷◌, ◌++◌, length, drop}
use Rattle.term.specs.declared.node.Node.{Node}
use Rattle.term.specs.declared.node.Node.TheVariants.{Variable, Applied}
use Rattle.term.specs.Words.{Word, var, app, Words, nil, cons, len}

abbrev pub places_of : Node → ℕ
places_of (Variable x) = 0
places_of (Applied s k) = k

-- the nodes of a word
abbrev mutual
  pub code : Word → List Node
  code (var x) = Variable x ∷ []
  code (app s us) = Applied s (len us) ∷ codes us

  pub codes : Words → List Node
  codes nil = []
  codes (cons u us) = code u ++ codes us

-- the first k words, and those after them
abbrev pub first : ℕ → Words → Words
first zero us = nil
first (suc k) nil = nil
first (suc k) (cons u us) = cons u (first k us)

abbrev pub after : ℕ → Words → Words
after zero us = us
after (suc k) nil = nil
after (suc k) (cons u us) = after k us

abbrev pub hd : Words → Word
hd nil = var 0
hd (cons u us) = u

abbrev pub tl : Words → Words
tl nil = nil
tl (cons u us) = us

-- the words that the nodes stand for, read from the right
unfoldable pub decode : List Node → Words
decode [] = nil
decode (Variable x ∷ nodes) = cons (var x) (decode nodes)
decode (Applied s k ∷ nodes) = cons (app s (first k (decode nodes))) (after k (decode nodes))

-- each symbol has all its places
unfoldable pub Whole : List Node → Type 0
Whole [] = Unit {0}
Whole (Variable x ∷ nodes) = Whole nodes
Whole (Applied s k ∷ nodes) = (k ≤ len (decode nodes)) × Whole nodes

-- the words from a place on, and the one at a place
abbrev pub words_at : List Node → ℕ → Words
words_at nodes i = decode (drop i nodes)

abbrev pub word_at : List Node → ℕ → Word
word_at nodes i = hd (words_at nodes i)

-- the word at i ends at j
pub record Next (nodes : List Node) (i j : ℕ) : Type 0 where
  pub later : i < j
  pub within : j ≤ length nodes
  pub rest : words_at nodes j ≡ tl (words_at nodes i)
