use Rattle.bounded.specs.Elems.{elems}
use Rattle.subsume.specs.Choices.{picked}
use Rattle.reduction.proofs.Gathering.{Gathered}
use Rattle.reduction.proofs.tidying.targets.Given as goal

abbrev pub invariant-loop-pick : goal.invariant-loop-pick
invariant-loop-pick g l = Gathered l.clause.nodes.now l.clause.starts.now (picked l.picks) l.pick-index l.mapped.words (elems l.image)
