use Rattle.std.proofs.Common.{max}
use Rattle.subsume.proofs.Combining.{Combined}
use Rattle.subsume.proofs.bits.BitSet.add.Given as goal

abbrev pub invariant-loop-w : goal.invariant-loop-w
invariant-loop-w g l = Combined max l.other.words l.initial.self.words l.self.words l.w
