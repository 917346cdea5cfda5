use Rattle.std.proofs.Common.{◌<◌, length, ap, ◌∙◌, arith}
use Rattle.std.proofs.lemmas.List.{length_push}
use Rattle.bounded.specs.Elems.{elems}
use Rattle.bounded.proofs.Rooms.{pushed_room}
use Rattle.reduction.proofs.Nodes.{variables-more, nodes-more}
use Rattle.reduction.proofs.numbering.add_nodes.Goals as goal

pub loop-node-preserved : goal.loop-node-preserved
loop-node-preserved c =
    let k = c.loop-node.node-index in
    let before = elems c.loop-node.out in
    let after = elems c.push.new.self in
    let s = elems c.loop-node.seen in
    let s' = elems c.renumbered_node.new.seen in
    let i = c.loop-node.invariant in
    let e = c.renumbered_node.ensures in
    let room : length before < 256 = omega arith in
    let pushed = pushed_room 256 c.renumbered_node.result before c.push.result after c.push.ensures room in
    let long = ap length pushed ∙ length_push before c.renumbered_node.result in
    record {
      nodes = nodes-more c.args.nodes.now before after s s' _ k (omega arith) e.seen i.seen c.renumbered_node.result e.node pushed ∙ i.nodes;
      seen = variables-more c.args.nodes.now before after s s' _ k (omega arith) e.seen i.seen;
      few = omega (arith, e.few, i.few);
      room = omega (arith, i.room);
    }
