use Rattle.std.proofs.Common.{◌-◌, length}
use Rattle.session.proofs.Underway.{Underway}
use Rattle.session.proofs.whole.put_lines.Given as goal

abbrev pub invariant-loop-at : goal.invariant-loop-at
invariant-loop-at l = Underway l.input l.at l.gatherer.class l.initial.out l.to l.out

abbrev pub decreases-loop-at : goal.decreases-loop-at
decreases-loop-at l = length l.input - l.at
