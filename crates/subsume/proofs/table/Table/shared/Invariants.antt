use Rattle.std.proofs.Common.{length}
use Rattle.subsume.specs.Choices.{Shared}
use Rattle.subsume.proofs.table.Table.shared.Given as goal

abbrev pub invariant-loop : goal.invariant-loop
invariant-loop g l = Shared l.self.fronts.now l.self.slots.now (length l.self.literals.starts.now) (length l.self.targets.starts.now) l.sets l.x l.marks.words
