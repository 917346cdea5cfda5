-- That words end at places has at most one proof.
use Rattle.std.specs.Prelude.{ℕ, List}
use Rattle.std.specs.Coded.{×_prop, Π_prop, →_prop, le_prop}
use Rattle.std.proofs.Math.Decide.{ℕ_discrete}
use mathlib.Core.HLevel.{hedberg}
use Rattle.term.specs.Coding.{Next}
use Rattle.term.specs.Joins.{Symbol-discrete}
use Rattle.term.specs.Words.{Words, Words-discrete}
use Rattle.term.specs.declared.node.Node.{Node}
use Rattle.subsume.specs.Meeting.{Ends}

Words-set : IsSet Words
Words-set = hedberg (Words-discrete ℕ_discrete Symbol-discrete)

Next-prop : (nodes : List Node) (i j : ℕ) → IsProp (Next nodes i j)
Next-prop nodes i j x y k = record { later = le_prop x.later y.later k; within = le_prop x.within y.within k; rest = Words-set _ _ x.rest y.rest k }

pub Ends-prop : (nodes : List Node) (ends : List ℕ) → IsProp (Ends nodes ends)
Ends-prop nodes ends = ×_prop le_prop (Π_prop (λ q. →_prop (Next-prop nodes q _)))
