use Rattle.bounded.specs.Elems.{elems}
use Rattle.subsume.proofs.Firsts.{begun-none}
use Rattle.subsume.proofs.table.Table.begin.Goals as goal

pub returns : goal.returns
returns g c =
    let t = c.args.self.now in
    record {
      begun = begun-none t.literals.nodes.now t.literals.starts.now t.targets.nodes.now t.targets.starts.now (elems c.new.result) c.start.result.sets c.start.result.picks c.start.ensures.spared c.start.ensures.picked c.new.ensures;
      choice = c.new.ensures;
    }
