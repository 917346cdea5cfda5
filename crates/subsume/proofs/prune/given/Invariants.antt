use Rattle.std.proofs.Common.{◌*◌, length, min}
use Rattle.subsume.specs.Choices.{Given}
use Rattle.subsume.proofs.prune.given.Given as goal

abbrev pub invariant-loop-w : goal.invariant-loop-w
invariant-loop-w g l = Given l.left.words l.labels (min (64 * l.w) (length l.labels)) l.marks.words
