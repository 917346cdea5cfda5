use Rattle.bounded.specs.Elems.{elems}
use Rattle.reduction.proofs.Turns.{Reached}
use Rattle.reduction.proofs.renumber.renumbered_clause.Given as goal

abbrev pub invariant-loop-i : goal.invariant-loop-i
invariant-loop-i l = Reached l.clause l.i l.compact (elems l.seen)
