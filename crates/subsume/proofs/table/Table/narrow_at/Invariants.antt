use Rattle.std.proofs.Common.{length, get_or}
use Rattle.subsume.specs.Choices.{Holding}
use Rattle.subsume.proofs.table.Table.narrow_at.Given as goal

abbrev pub invariant-loop-i : goal.invariant-loop-i
invariant-loop-i g l = Holding (length l.self.literals.starts.now) (length l.self.targets.starts.now) (λ i. get_or l.self.literals.starts.now i 0) (get_or l.self.targets.starts.now l.j 0) l.j l.initial.sets l.sets
