-- The packed form of nodes.
use Rattle.std.specs.Prelude.{ℕ, suc, ◌+◌, ◌*◌, ◌≤◌, max, List, [], ◌∷◌, ◌++◌, All}
use Rattle.std.specs.List.{flat_map}
use Rattle.number.specs.Forms.{form}
use Rattle.term.specs.declared.node.Node.{Node}
use Rattle.term.specs.declared.node.Node.TheVariants.{Variable, Applied}
use Rattle.term.specs.declared.node.Symbol.{Symbol}
use Rattle.term.specs.declared.node.Symbol.TheVariants.{Function, Positive, Negative}

-- a symbol's first number: twice its own, and one more for a function symbol or a negative predicate
abbrev pub packed_symbol : Symbol → ℕ
packed_symbol (Function f) = 2 * f + 1
packed_symbol (Positive p) = 2 * p
packed_symbol (Negative p) = 2 * p + 1

-- a variable is one number, a symbol is followed by its count of places
abbrev pub packed_node : Node → List ℕ
packed_node (Variable x) = form (2 * x)
packed_node (Applied s k) = form (packed_symbol s) ++ form k

-- nodes one after the other
unfoldable pub packed : List Node → List ℕ
packed nodes = flat_map packed_node nodes

-- the variables that have stood, as a count, once the nodes are added
unfoldable pub seen_after : List Node → (seen : ℕ) → ℕ
seen_after [] seen = seen
seen_after (Variable x ∷ nodes) seen = seen_after nodes (max seen (suc x))
seen_after (Applied s k ∷ nodes) seen = seen_after nodes seen

-- the number of a symbol
abbrev pub symbol_number : Symbol → ℕ
symbol_number (Function f) = f
symbol_number (Positive p) = p
symbol_number (Negative p) = p

-- the number of a variable, or of the symbol
abbrev pub node_number : Node → ℕ
node_number (Variable x) = x
node_number (Applied s k) = symbol_number s

-- twice the number of the node is a packed number, and so is one more
abbrev pub Small : Node → Type 0
Small node = node_number node ≤ 32767

-- each of the nodes is so
abbrev pub Writable : List Node → Type 0
Writable = All Small
