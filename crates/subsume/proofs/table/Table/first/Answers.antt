use Rattle.std.proofs.Common.{[]}
use Rattle.subsume.proofs.Firsts.{none_searched}
use Rattle.subsume.proofs.table.Table.first.Goals as goal

pub returns : goal.returns
returns g c = rw c.begin-state.ensures.choice at c.first_from.ensures

pub returns-in_default : goal.returns-in_default
returns-in_default g c =
    let t = c.args.self.now in
    none_searched t.literals.nodes.now t.literals.starts.now t.targets.nodes.now t.targets.starts.now [] _ _ (rw c.begin-state.ensures.choice at c.begin-state.ensures.begun) (rw c.copied.ensures.sets at c.search.ensures.none c.in_default.is)
