-- The least clause over two, and the limit on its size.
use Rattle.std.specs.Prelude.{◌≤◌, List, length, All, sum_by}
use Rattle.term.specs.Words.{Word, size}
use Rattle.clauses.specs.Clauses.{Literal, Covers}

-- at most 16 literals and 256 nodes
abbrev pub Within : List Word → Type 0
Within C = (length C ≤ 16) × (sum_by size C ≤ 256)

-- E is least over C and D: a clause of literals that covers both, and every clause of literals that covers both covers it
pub record Least (C D E : List Word) : Type 0 where
  pub literals : All Literal E
  pub left : Covers E C
  pub right : Covers E D
  pub below : (F : List Word) → All Literal F → Covers F C → Covers F D → Covers F E
