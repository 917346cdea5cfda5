-- What a join of the words at two places leaves.
use Rattle.std.specs.Prelude.{◌≡◌, ℕ, ◌+◌, ◌-◌, ◌<◌, ◌≤◌, List, [], ◌∷◌, ◌++◌, length, All}
use Rattle.term.specs.declared.join.Pair.{Pair}
use Rattle.term.specs.declared.node.Node.{Node}
use Rattle.term.specs.declared.node.Node.TheVariants.{Variable, Applied}
use Rattle.term.specs.Coding.{code, word_at, Next}
use Rattle.term.specs.Joins.{Table, join}

-- pairs of places stand for the pairs of the words there
unfoldable pub mean : List Node → List Node → List Pair → Table
mean a b [] = []
mean a b (p ∷ pairs) = (word_at a p.left, word_at b p.right) ∷ mean a b pairs

-- each pair stands inside the two
abbrev pub Inside : List Node → List Node → List Pair → Type 0
Inside a b = All (λ p. (p.left < length a) × (p.right < length b))

-- two nodes are the same symbol
abbrev pub Fellows : Node → Node → Type 0
Fellows (Variable x) y = ⊥
Fellows (Applied s k) (Variable y) = ⊥
Fellows (Applied s k) (Applied t l) = (s ≡ t) × (k ≡ l)

-- the words at i and j end at p and q; the nodes of their join came to the end of o, and its new pairs to the end of s;
-- what was written is no more than what was read
pub record Joined (a b : List Node) (i j p q : ℕ) (o o' : List Node) (s s' : List Pair) : Type 0 where
  pub left : Next a i p
  pub right : Next b j q
  pub nodes : o' ≡ o ++ code (join (word_at a i) (word_at b j) (mean a b s)).0
  pub table : mean a b s' ≡ (join (word_at a i) (word_at b j) (mean a b s)).1
  pub known : Inside a b s'
  pub room : length o' + (length a - p) ≤ length o + (length a - i)
  pub spare : length s' + (length a - p) ≤ length s + (length a - i)
