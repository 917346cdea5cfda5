use Rattle.subsume.proofs.Standings.{Meeting}
use Rattle.subsume.proofs.front.Front.meet.Given as goal

abbrev pub invariant-loop-w : goal.invariant-loop-w
invariant-loop-w g l = Meeting l.self.met.words l.initial.left.words l.left.words l.w
