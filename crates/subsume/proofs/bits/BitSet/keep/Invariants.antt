use Rattle.std.proofs.Common.{min}
use Rattle.subsume.proofs.Combining.{Combined}
use Rattle.subsume.proofs.bits.BitSet.keep.Given as goal

abbrev pub invariant-loop-w : goal.invariant-loop-w
invariant-loop-w g l = Combined min l.other.words l.initial.self.words l.self.words l.w
