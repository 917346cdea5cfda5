use Rattle.std.proofs.Common.{arith}
use Rattle.bounded.specs.Elems.{elems}
use Rattle.bounded.proofs.Rooms.{pushed_room}
use Rattle.subsume.proofs.Firsts.{begun-more}
use Rattle.subsume.proofs.table.Table.take_next.Goals as goal

pub returns-clause-begun : goal.returns-clause-begun
returns-clause-begun g c =
    let t = c.args.self.now in
    let front = elems c.args.choice.now in
    let begun = c.requires.begun in
    begun-more t.literals.nodes.now t.literals.starts.now t.targets.nodes.now t.targets.starts.now t.fronts.now t.slots.now front _ c.args.state.now.sets c.take.result.sets c.args.state.now.picks c.take.result.picks c.args.j
    t.linked (rw c.len.ensures.value at c.take.ensures.taken) begun (c.take.ensures.picked begun.picked) c.requires.literal c.requires.target
    (pushed_room g.row.N _ front c.push.result (elems c.push.new.self) c.push.ensures (omega (arith, c.requires.literal, t.few.0)))
