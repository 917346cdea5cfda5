use Rattle.std.proofs.Common.{length}
use Rattle.subsume.proofs.Pruning.{pruned-then}
use Rattle.subsume.proofs.table.Table.prune.Goals as goal

pub loop-preserved : goal.loop-preserved
loop-preserved g c =
    let t = c.args.self.now in
    pruned-then t.fronts.now t.slots.now (length t.literals.starts.now) (length t.targets.starts.now) c.args.sets.now c.loop.sets c.revise.new.sets c.loop.invariant c.revise.ensures
