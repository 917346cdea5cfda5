use Rattle.subsume.proofs.Avoiding.{held-picked, held-spared}
use Rattle.subsume.proofs.table.Table.hold.Goals as goal

pub returns-clause-picked : goal.returns-clause-picked
returns-clause-picked g c =
    let t = c.args.self.now in
    (held-picked t.literals.nodes.now t.literals.starts.now t.targets.nodes.now t.targets.starts.now c.args.j c.args.state.now.sets c.narrow_at.new.sets c.prune.new.sets c.narrow_at.ensures
    c.args.state.now.picks c.prune.ensures.fewer c.requires.picked)

pub returns-clause-spared : goal.returns-clause-spared
returns-clause-spared g c =
    let t = c.args.self.now in
    held-spared t.literals.nodes.now t.literals.starts.now t.targets.nodes.now t.targets.starts.now c.args.j c.args.state.now.sets c.narrow_at.new.sets c.prune.new.sets c.narrow_at.ensures
    t.fronts.now t.slots.now t.linked c.prune.ensures c.requires.target
