-- Where the nodes of two words meet that a substitution turns into each other, and where words stand first.
use Rattle.std.specs.Prelude.{◌≡◌, ℕ, suc, ◌+◌, ◌*◌, ◌%◌, ◌<◌, ◌≤◌, List, [], ◌∷◌, length, Some, None, Option, slice_index, slice_index_or}
use Rattle.std.proofs.Math.Logic.{ite}
use Rattle.std.proofs.Math.Decide.{ℕ_discrete}
use Rattle.term.specs.Coding.{code, word_at, words_at, Next, first, after, tl}
use Rattle.term.specs.Joined.{Fellows}
use Rattle.term.specs.Joins.{Symbol-discrete}
use Rattle.term.specs.Matched.{Turns}
use Rattle.term.specs.Words.{Word, len, subs, Word-discrete}
use Rattle.term.specs.declared.node.Node.{Node}
use Rattle.term.specs.declared.node.Node.TheVariants.{Variable, Applied}
use Rattle.term.specs.declared.node.Symbol.TheVariants.{Function, Positive, Negative}

-- of the word at i, m words are still to come from p on; a substitution that turns it into the word at j turns these into
-- the m words from q on
pub record Abreast (a b : List Node) (i j p q : ℕ) : Type 0 where
  pub m : ℕ
  pub left : m ≤ len (words_at a p)
  pub right : m ≤ len (words_at b q)
  pub rest : after m (words_at a p) ≡ tl (words_at a i)
  pub turns : (θ : ℕ → Word) → Turns a i b j θ → subs θ (first m (words_at a p)) ≡ first m (words_at b q)

-- where the node p of the word at i is met in the word at j; or none, where no substitution turns the one into the other
abbrev pub Reached : List Node → (i p : ℕ) → List Node → (j : ℕ) → Option ℕ → Type 0
Reached a i p b j (Some q) = Abreast a b i j p q
Reached a i p b j None = (θ : ℕ → Word) → Turns a i b j θ → ⊥

-- one node on: a variable is met by a word, and a symbol by the same symbol
abbrev pub Stepped : Node → List Node → (q : ℕ) → Option ℕ → Type 0
Stepped (Variable x) b q (Some r) = Next b q r
Stepped (Variable x) b q None = ⊥
Stepped (Applied s k) b q (Some r) = Fellows (Applied s k) (slice_index_or b q (Variable 0)) × (r ≡ q + 1)
Stepped (Applied s k) b q None = Fellows (Applied s k) (slice_index_or b q (Variable 0)) → ⊥

-- the same in each of several words, as far as the walk has not ended there
abbrev pub Advanced : Node → List Node → (before after : Option ℕ) → Type 0
Advanced node b (Some q) after = Stepped node b q after
Advanced node b None after = after ≡ None

-- the first place where the word stands, or the end where it stands nowhere
unfoldable pub place_of : List Node → Word → ℕ
place_of [] w = 0
place_of (node ∷ nodes) w = ite (Word-discrete ℕ_discrete Symbol-discrete (word_at (node ∷ nodes) 0) w) 0 (suc (place_of nodes w))

-- for each node where its word ends
abbrev pub Ends : List Node → (ends : List ℕ) → Type 0
Ends nodes ends = (length nodes ≤ length ends) × ((q : ℕ) → q < length nodes → Next nodes q (slice_index ends q))

-- for each node the first place where the same word stands
abbrev pub Firsts : List Node → (places : List ℕ) → Type 0
Firsts nodes places = (length nodes ≤ length places) × ((q : ℕ) → q < length nodes → slice_index places q ≡ place_of nodes (word_at nodes q))

-- a hash of a word: equal words have equal hashes, and other words mostly have others
abbrev pub number : Node → ℕ
number (Variable x) = 2 * x
number (Applied (Function f) k) = 2 * f + 1
number (Applied (Positive p) k) = 2 * p
number (Applied (Negative p) k) = 2 * p + 1

abbrev pub mixed : (hash : ℕ) → List Node → ℕ
mixed hash [] = hash
mixed hash (node ∷ nodes) = mixed ((hash * 31 + number node) % 4096) nodes

unfoldable pub hash_of : Word → ℕ
hash_of w = mixed 0 (code w)
