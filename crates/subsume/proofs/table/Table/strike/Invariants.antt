use Rattle.std.proofs.Common.{length}
use Rattle.subsume.specs.Choices.{Pruned}
use Rattle.subsume.proofs.table.Table.strike.Given as goal

abbrev pub invariant-loop : goal.invariant-loop
invariant-loop g l = Pruned l.self.fronts.now l.self.slots.now (length l.self.literals.starts.now) (length l.self.targets.starts.now) l.initial.sets l.sets
