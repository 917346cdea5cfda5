use Rattle.std.proofs.Common.{◌-◌, length}
use Rattle.bounded.specs.Elems.{elems}
use Rattle.subsume.proofs.Firsts.{Passed}
use Rattle.subsume.proofs.table.Table.+first_from.Given as goal

abbrev pub decreases-first_from : goal.decreases-first_from
decreases-first_from g l = length l.self.now.literals.starts.now - length (elems l.choice)

-- the targets that were passed over
abbrev pub invariant-loop-j : goal.invariant-loop-j
invariant-loop-j g l = Passed l.self.literals.nodes.now l.self.literals.starts.now l.self.targets.nodes.now l.self.targets.starts.now (elems l.choice) l.j
