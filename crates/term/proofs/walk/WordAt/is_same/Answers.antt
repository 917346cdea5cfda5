use Rattle.std.proofs.Common.{◌≡◌, ◌+◌, get_or, sym, ap, ◌∙◌, arith}
use Rattle.std.proofs.Math.Bool.{not, not-not}
use Rattle.std.proofs.lemmas.Bool.Decides.{Decides-not}
use Rattle.term.specs.declared.node.Node.TheVariants.{Variable}
use Rattle.term.specs.contracts.node.NodePartialEq.TheImpl.{eq-value as same_node}
use Rattle.term.specs.Sameness.{same_node-Decides}
use Rattle.term.proofs.Codings.{len-rest, on, words-in}
use Rattle.term.proofs.Beside.{beside-first, beside-same, beside_on}
use Rattle.term.proofs.walk.WordAt.is_same.Goals as goal

pub loop-need-init : goal.loop-need-init
loop-need-init c =
    let u = c.args.self in
    let v = c.args.other in
    beside-first u.nodes.now v.nodes.now u.start v.start u.inside v.inside

pub bounds-self-left : goal.bounds-self-left
bounds-self-left c = words-in c.args.self.nodes.now c.loop-need.left c.loop-need.need c.loop-need-test.true c.loop-need.invariant.left

pub bounds-other-right : goal.bounds-other-right
bounds-other-right c = words-in c.args.other.nodes.now c.loop-need.right c.loop-need.need c.loop-need-test.true c.loop-need.invariant.right

pub returns-then-ne : goal.returns-then-ne
returns-then-ne c =
    let u = c.args.self in
    let v = c.args.other in
    let l = c.loop-need in
    let same = beside-same u.nodes.now v.nodes.now u.start v.start l.left l.right l.need (Variable 0) u.whole v.whole c.loop-need-test.true l.invariant in
    let x = get_or u.nodes.now l.left (Variable 0) in
    let y = get_or v.nodes.now l.right (Variable 0) in
    let e : c.ne.result ≡ not (same_node.it x y) = c.ne.ensures in
    (λ f. cc, λ f. absurd ((Decides-not _ (same_node-Decides x y)).0 (sym e ∙ c.if-ne.true) (same f)))

pub overflow_add-need : goal.overflow_add-need
overflow_add-need c =
    let w = c.args.self in
    let l = c.loop-need in
    let s = on w.nodes.now l.left l.need (Variable 0) w.whole c.loop-need-test.true l.invariant.left in
    omega (arith, s.enough, len-rest w.nodes.now (l.left + 1))

pub loop-need-smaller : goal.loop-need-smaller
loop-need-smaller c =
    let h = words-in c.args.self.nodes.now c.loop-need.left c.loop-need.need c.loop-need-test.true c.loop-need.invariant.left in
    omega (arith, h)

pub loop-need-preserved : goal.loop-need-preserved
loop-need-preserved c =
    let u = c.args.self in
    let v = c.args.other in
    let l = c.loop-need in
    let x = get_or u.nodes.now l.left (Variable 0) in
    let y = get_or v.nodes.now l.right (Variable 0) in
    let e : c.ne.result ≡ not (same_node.it x y) = c.ne.ensures in
    let same : x ≡ y = (same_node-Decides x y).0 (sym (not-not _) ∙ ap not (sym e ∙ c.if-ne.false)) in
    rw c.places.ensures.value (beside_on u.nodes.now v.nodes.now u.start v.start l.left l.right l.need (Variable 0) u.whole v.whole c.loop-need-test.true l.invariant same)
