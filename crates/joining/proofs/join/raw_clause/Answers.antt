use Rattle.std.proofs.Common.{arith}
use Rattle.bounded.specs.Elems.{elems}
use Rattle.joining.proofs.Turns.{joined-none, room-next, joined-below, joining-more}
use Rattle.joining.proofs.join.raw_clause.Goals as goal

pub loop-i-init : goal.loop-i-init
loop-i-init c = joined-none c.args.first c.args.second c.requires.begun c.args.clause.now (elems c.new-pairs.result) c.requires.empty c.new-pairs.ensures c.requires.small

pub add-requires-clause-room : goal.add-requires-clause-room
add-requires-clause-room c =
    rw (c.literal.ensures.nodes, c.literal.ensures.start)
    (room-next c.args.first c.args.second c.requires.begun c.loop-i.i c.loop-j.j _ (omega arith) (omega arith) c.loop-j.invariant.room)

pub add-requires-clause-spare : goal.add-requires-clause-spare
add-requires-clause-spare c =
    rw (c.literal.ensures.nodes, c.literal.ensures.start)
    (room-next c.args.first c.args.second c.requires.begun c.loop-i.i c.loop-j.j _ (omega arith) (omega arith) c.loop-j.invariant.spare)

pub loop-j-preserved : goal.loop-j-preserved
loop-j-preserved c =
    let e = c.literal.ensures in
    let f = c.literal-in-loop-j.ensures in
    joining-more c.args.first c.args.second c.loop-j.clause (elems c.loop-j.pairs) c.loop-i.i c.loop-j.j c.add.new.self (elems c.add.new.pairs)
    (omega arith) (omega arith) c.loop-j.invariant (rw (e.nodes, e.start, f.nodes, f.start) at c.add.ensures)

pub returns-clause-variables : goal.returns-clause-variables
returns-clause-variables c = joined-below c.args.first c.args.second c.loop-i.clause (elems c.loop-i.pairs) c.loop-i.i (omega arith) c.loop-i.invariant
