use Rattle.bounded.specs.Elems.{elems}
use Rattle.joining.proofs.Turns.{Joined, Joining}
use Rattle.joining.proofs.join.raw_clause.Given as goal

abbrev pub invariant-loop-i : goal.invariant-loop-i
invariant-loop-i l = Joined l.first l.second l.i l.clause (elems l.pairs)

abbrev pub invariant-loop-j : goal.invariant-loop-j
invariant-loop-j l = Joining l.first l.second l.i l.j l.clause (elems l.pairs)
