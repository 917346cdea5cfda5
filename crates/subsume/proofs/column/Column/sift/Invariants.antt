use Rattle.subsume.proofs.Columns.{Brought}
use Rattle.subsume.proofs.column.Column.sift.Given as goal

abbrev pub invariant-loop-rest : goal.invariant-loop-rest
invariant-loop-rest g l = Brought l.self l.marks.words l.rest l.kept

abbrev pub decreases-loop-rest : goal.decreases-loop-rest
decreases-loop-rest g l = l.rest
