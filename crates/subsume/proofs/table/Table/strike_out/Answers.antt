use Rattle.std.proofs.Common.{arith}
use Rattle.subsume.proofs.Avoiding.{cut-spared}
use Rattle.subsume.proofs.table.Table.strike_out.Goals as goal

pub returns-clause-spared : goal.returns-clause-spared
returns-clause-spared g c =
    let t = c.args.self.now in
    cut-spared t.literals.nodes.now t.literals.starts.now t.targets.nodes.now t.targets.starts.now c.args.gone.now.words c.args.state.now.sets c.loop-i.state.sets c.prune.new.sets c.loop-i.i
    (omega (arith, c.len-i-end.ensures)) c.loop-i.invariant.cut t.fronts.now t.slots.now t.linked c.prune.ensures
