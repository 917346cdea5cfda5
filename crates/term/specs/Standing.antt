-- That nodes are whole has at most one proof.
use Rattle.std.specs.Prelude.{List, [], ◌∷◌}
use Rattle.std.specs.Coded.{×_prop, Unit-prop, le_prop}
use Rattle.term.specs.declared.node.Node.{Node}
use Rattle.term.specs.declared.node.Node.TheVariants.{Variable, Applied}
use Rattle.term.specs.Coding.{Whole}

pub Whole-prop : (nodes : List Node) → IsProp (Whole nodes)
unfolding Whole
Whole-prop [] = Unit-prop
Whole-prop (Variable x ∷ nodes) = Whole-prop nodes
Whole-prop (Applied s k ∷ nodes) = ×_prop le_prop (Whole-prop nodes)
