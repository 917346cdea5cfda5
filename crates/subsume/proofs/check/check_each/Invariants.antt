use Rattle.subsume.specs.Choices.{picked}
use Rattle.subsume.proofs.Checked.{Bound}
use Rattle.subsume.proofs.check.check_each.Given as goal

abbrev pub invariant-loop-i : goal.invariant-loop-i
invariant-loop-i l = Bound l.a.nodes.now l.a.starts.now l.b.nodes.now l.b.starts.now (picked l.picks) l.i l.bound
