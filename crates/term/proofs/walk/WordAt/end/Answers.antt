use Rattle.std.proofs.Common.{◌≡◌, ◌+◌, ◌∙◌, refl, arith}
use Rattle.term.specs.declared.node.Node.TheVariants.{Variable}
use Rattle.term.specs.Coding.{words_at}
use Rattle.term.proofs.Codings.{len-at, len-rest, after_one}
use Rattle.term.proofs.Walked.{walked-in, walked_node}
use Rattle.term.proofs.walk.WordAt.end.Goals as goal

pub loop-need-init : goal.loop-need-init
loop-need-init c =
    let w = c.args.self in
    (omega arith, record { from = omega arith; within = omega (arith, w.inside); more = len-at w.nodes.now w.start w.inside; rest = refl })

pub bounds-self-end : goal.bounds-self-end
bounds-self-end c = walked-in c.args.self.nodes.now 1 c.loop-need.need c.loop-need.end c.args.self.start c.loop-need-test.true c.loop-need.invariant.1

pub overflow_add-need : goal.overflow_add-need
overflow_add-need c =
    let w = c.args.self in
    let s = walked_node w.nodes.now 1 c.loop-need.need c.loop-need.end w.start (Variable 0) w.whole c.loop-need-test.true c.loop-need.invariant.1 in
    omega (arith, s.more, len-rest w.nodes.now (c.loop-need.end + 1))

pub loop-need-preserved : goal.loop-need-preserved
loop-need-preserved c =
    let w = c.args.self in
    let s = walked_node w.nodes.now 1 c.loop-need.need c.loop-need.end w.start (Variable 0) w.whole c.loop-need-test.true c.loop-need.invariant.1 in
    rw c.places.ensures.value (omega (arith, s.from), s)

pub returns : goal.returns
returns c =
    let w = c.args.self in
    let g = c.loop-need.invariant.1 in
    let none : c.loop-need.need ≡ 0 = omega arith in
    record { later = omega (arith, c.loop-need.invariant.0); within = g.within; rest = (rw none at g.rest) ∙ after_one (words_at w.nodes.now w.start) }

pub loop-need-smaller : goal.loop-need-smaller
loop-need-smaller c =
    let h = walked-in c.args.self.nodes.now 1 c.loop-need.need c.loop-need.end c.args.self.start c.loop-need-test.true c.loop-need.invariant.1 in
    omega (arith, h)
