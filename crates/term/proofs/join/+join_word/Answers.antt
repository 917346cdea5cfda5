use Rattle.std.proofs.Common.{◌≡◌, ◌+◌, ◌-◌, length, ap, ◌∙◌, arith}
use Rattle.std.proofs.lemmas.List.{length_push}
use Rattle.std.proofs.lemmas.Bool.{both_ways}
use Rattle.bounded.specs.Elems.{elems}
use Rattle.bounded.proofs.Rooms.{pushed_room}
use Rattle.term.specs.declared.node.Node.TheVariants.{Variable}
use Rattle.term.proofs.Walked.{root, walked-in}
use Rattle.term.proofs.Joinings.{going_on, going-first, going-last, stands}
use Rattle.term.proofs.join.+join_word.Goals as goal

pub returns-then-not-fellows : goal.returns-then-not-fellows
returns-then-not-fellows g t c =
    let new = pushed_room g.row.N (Variable c.variable_of-x.result) (elems c.args.out.now) c.push.result (elems c.push.new.self) c.push.ensures (omega (arith, c.args.a.inside)) in
    stands c.args.a c.args.b
    c.end.result c.end-then-not-fellows.result c.variable_of-x.result (elems c.args.out.now) (elems c.push.new.self) (elems c.args.pairs.now) (elems c.variable_of-x.new.pairs)
    (λ h. both_ways _ c.if-not-fellows.true (c.fellows.ensures.1 h))
    c.end.ensures c.end-then-not-fellows.ensures c.variable_of-x.ensures.number c.variable_of-x.ensures.table c.variable_of-x.ensures.known
    c.variable_of-x.ensures.size new

pub loop-init : goal.loop-init
loop-init g t c =
    let go = going-first c.args.a c.args.b
    c.places-end.result (c.places-end.result - 0) (elems c.push-2.new.self) (elems c.args.pairs.now)
    (c.fellows.ensures.0 c.if-not-fellows.false) c.places-end.ensures.value (omega arith) c.requires.known in
    let new = pushed_room g.row.N (root c.args.a) (elems c.args.out.now) c.push-2.result (elems c.push-2.new.self) c.push-2.ensures (omega (arith, c.args.a.inside)) in
    let long : length (elems c.push-2.new.self) ≡ length (elems c.args.out.now) + 1 = ap length new ∙ length_push _ _ in
    record {
      going = go;
      later = omega arith;
      left = λ h. walked-in c.args.a.nodes.now c.places-end.result (c.places-end.result - 0) (c.args.a.start + 1) (c.args.a.start + 1) (omega arith) go.left;
      right = λ h. walked-in c.args.b.nodes.now c.places-end.result (c.places-end.result - 0) (c.args.b.start + 1) (c.args.b.start + 1) (omega arith) go.right;
      known = c.requires.known;
      room = omega arith;
      spare = omega arith;
    }

pub loop-preserved : goal.loop-preserved
loop-preserved g t c =
    let step = rw (c.at.ensures.nodes, c.at.ensures.start, c.at-in-loop.ensures.nodes, c.at-in-loop.ensures.start) at c.join_word.ensures in
    let go = going_on c.args.a.nodes.now c.args.b.nodes.now _ (c.places-end.result - c.loop.counter) (c.places-end.result - (c.loop.counter + 1)) _ _ _ _ _ _ _ _ _ _ _ _ (omega arith) (omega arith) c.loop.invariant.going step in
    record {
      going = go;
      later = omega (arith, step.left.later);
      left = λ h. walked-in c.args.a.nodes.now c.places-end.result (c.places-end.result - (c.loop.counter + 1)) _ (c.args.a.start + 1) (omega arith) go.left;
      right = λ h. walked-in c.args.b.nodes.now c.places-end.result (c.places-end.result - (c.loop.counter + 1)) _ (c.args.b.start + 1) (omega arith) go.right;
      known = step.known;
      room = omega (arith, step.room);
      spare = omega (arith, step.spare);
    }

pub returns : goal.returns
returns g t c =
    let new = pushed_room g.row.N (root c.args.a) (elems c.args.out.now) c.push-2.result (elems c.push-2.new.self) c.push-2.ensures (omega (arith, c.args.a.inside)) in
    going-last c.args.a c.args.b
    c.places-end.result (c.places-end.result - c.loop.counter) c.loop.p c.loop.q _ (elems c.push-2.new.self) _ _ _
    (c.fellows.ensures.0 c.if-not-fellows.false) c.places-end.ensures.value (omega arith) new c.loop.invariant.going
