use Rattle.subsume.specs.Choices.{undone}
use Rattle.subsume.proofs.Searching.{Out}
use Rattle.subsume.proofs.table.Table.+search.Given as goal

-- the choices still to be made fall
abbrev pub decreases-search : goal.decreases-search
decreases-search g l = undone l.state.picks

-- what was tried without success
abbrev pub invariant-loop-k : goal.invariant-loop-k
invariant-loop-k g l = Out l.self.literals.nodes.now l.self.literals.starts.now l.self.targets.nodes.now l.self.targets.starts.now l.state.sets l.chosen.words l.i l.n l.k
