use Rattle.std.proofs.Common.{arith}
use Rattle.subsume.proofs.Picking.{undone-less}
use Rattle.subsume.proofs.table.Table.take.Goals as goal

pub returns-clause-fewer : goal.returns-clause-fewer
returns-clause-fewer g c =
    let few = c.args.self.now.few in
    undone-less c.args.state.now.picks c.args.i c.args.j (omega (arith, c.requires.literal, few.0, c.args.state.now.sized))
