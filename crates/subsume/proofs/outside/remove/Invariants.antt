use Rattle.subsume.proofs.Avoiding.{Removing}
use Rattle.subsume.proofs.outside.remove.Given as goal

abbrev pub invariant-loop-w : goal.invariant-loop-w
invariant-loop-w l = Removing l.gone.words l.initial.left.words l.left.words l.w
