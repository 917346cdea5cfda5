use Rattle.subsume.proofs.Searching.{spared}
use Rattle.subsume.proofs.table.Table.start.Goals as goal

pub returns-clause-spared : goal.returns-clause-spared
returns-clause-spared g c =
    let t = c.args.self.now in
    spared t.literals.nodes.now t.literals.starts.now t.targets.nodes.now t.targets.starts.now t.fronts.now t.slots.now t.candidates c.prune.new.sets t.linked t.opened c.prune.ensures
