use Rattle.std.proofs.Common.{◌≡◌, ◌+◌, ◌-◌, ◌<◌, get_or, take, drop, sym, ◌∙◌, arith}
use Rattle.std.proofs.lemmas.List.{drop_all, get_or-take, get_or-drop, length-take}
use Rattle.term.specs.declared.node.Node.TheVariants.{Variable}
use Rattle.term.proofs.Codings.{word-between}
use Rattle.term.proofs.Matchings.{below_at}
use Rattle.witness.proofs.Noting.{beside-first, beside-last, beside-inside, beside-variable, beside-symbol}
use Rattle.witness.proofs.witnesses.note_word.Goals as goal
use Rattle.witness.proofs.witnesses.note_word.Goals.{in-Variable, in-Applied}

pub loop-node-init : goal.loop-node-init
loop-node-init c =
    let a = c.args.a in
    let b = c.args.b in
    beside-first a.nodes.now b.nodes.now a.start b.start c.requires.turned.0 _ c.args.seen c.args.list.now b.whole b.inside c.requires.turned.1
    (word-between a.nodes.now a.start c.end.result a.whole a.inside c.end.ensures)

pub note-seen-requires : goal.note-seen-requires
note-seen-requires c =
    let nodes = c.args.a.nodes.now in
    let i = c.args.a.start in
    let k = c.loop-node.node-index in
    let n = c.end.result - i in
    let here = c.loop-node-test.true in
    let early : k < n = omega (arith, length-take n (drop i nodes)) in
    let at : get_or nodes (i + k) (Variable 0) ≡ Variable c.in-Variable.x = sym (get_or-take n (drop i nodes) k (Variable 0) early ∙ get_or-drop i nodes k (Variable 0)) ∙ c.in-Variable.is in
    let below = below_at _ nodes (i + k) _ (Variable 0) c.requires.room (omega (arith, c.end.ensures.within)) at in (
      omega (arith, below, c.loop-node.auto.list),
      omega (arith, c.requires.small, beside-inside _ k here _ c.loop-node.q c.loop-node.seen c.loop-node.list _ c.loop-node.invariant),
    )

pub at-requires : goal.at-requires
at-requires c = beside-inside _ c.loop-node.node-index c.loop-node-test.true _ c.loop-node.q c.loop-node.seen c.loop-node.list _ c.loop-node.invariant

pub overflow_add-q : goal.overflow_add-q
overflow_add-q c =
    let inside = beside-inside _ c.loop-node.node-index c.loop-node-test.true _ c.loop-node.q c.loop-node.seen c.loop-node.list _ c.loop-node.invariant in
    omega (arith, c.requires.small, inside)

pub loop-node-preserved : goal.loop-node-preserved
loop-node-preserved c =
    let k = c.loop-node.node-index in
    let here = c.loop-node-test.true in
    let q = c.loop-node.q in
    let seen = c.loop-node.seen in
    let list = c.loop-node.list in
    let g = c.loop-node.invariant in
    elim c.match-node.branch [
      | in-Variable w ↦
          rw (w.q-is, w.seen-is, w.list-is)
          (beside-variable _ k here _ q seen list _ g c.args.b.whole w.in-Variable.x w.end-q.result w.note-seen.result w.note-seen.new.list w.in-Variable.is
          (rw (w.at.ensures.nodes, w.at.ensures.start) at w.end-q.ensures) w.note-seen.ensures)
      | in-Applied w ↦ rw (w.q-is, w.seen-is, w.list-is) (beside-symbol _ k here _ q seen list _ g _ _ w.in-Applied.is)
    ]

pub returns : goal.returns
returns c =
    let items = take (c.end.result - c.args.a.start) (drop c.args.a.start c.args.a.nodes.now) in
    let none = drop_all c.loop-node.node-index items (omega arith) in
    beside-last _ c.loop-node.q c.loop-node.seen c.loop-node.list _ (rw none at c.loop-node.invariant)
