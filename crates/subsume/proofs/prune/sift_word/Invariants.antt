use Rattle.subsume.proofs.Marking.{Sieved}
use Rattle.subsume.proofs.prune.sift_word.Given as goal

abbrev pub invariant-loop-rest : goal.invariant-loop-rest
invariant-loop-rest g l = Sieved l.labels l.word l.marks.words l.rest l.kept

abbrev pub decreases-loop-rest : goal.decreases-loop-rest
decreases-loop-rest g l = l.rest
