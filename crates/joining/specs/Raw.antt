-- What a raw clause means, and what a join of two literals adds to it.
use Rattle.std.specs.Prelude.{◌≡◌, ℕ, ◌+◌, ◌≤◌, List, [], ◌∷◌, ◌++◌, length}
use Rattle.bounded.specs.Elems.{elems}
use Rattle.clauses.specs.Clauses.{each}
use Rattle.clauses.specs.Joins.{row}
use Rattle.joining.specs.declared.raw.RawClause.{RawClause}
use Rattle.term.specs.Coding.{decode, word_at}
use Rattle.term.specs.Joined.{mean, Inside}
use Rattle.term.specs.Words.{Word, size}
use Rattle.term.specs.declared.join.Pair.{Pair}
use Rattle.term.specs.declared.node.Node.{Node}

-- its literals in order
abbrev pub literals : RawClause → List Word
literals r = each (decode (elems r.nodes))

-- the join of the literals at i and j came to the end of r, if they fit, and its new pairs to the end of s; what was
-- written is no more than what was read
pub record Added (a b : List Node) (i j : ℕ) (r r' : RawClause) (s s' : List Pair) : Type 0 where
  pub literals : literals r' ≡ literals r ++ (row (word_at a i) (word_at b j ∷ []) (mean a b s)).0
  pub table : mean a b s' ≡ (row (word_at a i) (word_at b j ∷ []) (mean a b s)).1
  pub known : Inside a b s'
  pub room : length (elems r'.nodes) ≤ length (elems r.nodes) + size (word_at a i)
  pub spare : length s' ≤ length s + size (word_at a i)
