-- The variables of nodes, and nodes with other ones.
use Rattle.std.specs.Prelude.{ℕ, List, [], ◌∷◌, flat_map}
use Rattle.clauses.specs.Numbering.{rank}
use Rattle.term.specs.declared.node.Node.{Node}
use Rattle.term.specs.declared.node.Node.TheVariants.{Variable, Applied}

-- the variable of a node, if it is one
abbrev pub variable_in : Node → List ℕ
variable_in (Variable x) = x ∷ []
variable_in (Applied s k) = []

-- the variables of nodes in written order, each as often as it stands
abbrev pub variables_in : List Node → List ℕ
variables_in nodes = flat_map variable_in nodes

-- a node with the place of its variable among `order`
abbrev pub renumbered_node : (order : List ℕ) → Node → Node
renumbered_node order (Variable x) = Variable (rank order x)
renumbered_node order (Applied s k) = Applied s k
