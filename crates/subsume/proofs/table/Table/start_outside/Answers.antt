use Rattle.subsume.proofs.Avoiding.{pruned-spared}
use Rattle.subsume.proofs.table.Table.start_outside.Goals as goal

pub returns-clause-spared : goal.returns-clause-spared
returns-clause-spared g c =
    let t = c.args.self.now in
    pruned-spared t.literals.nodes.now t.literals.starts.now t.targets.nodes.now t.targets.starts.now t.fronts.now t.slots.now c.loop-j.sets c.prune.new.sets t.linked c.prune.ensures
    c.args.kept.now.words c.args.gone.now.words c.loop-j.invariant.spared
