use Rattle.std.proofs.Common.{◌≡◌, ap, ◌∙◌, sym, subst, arith}
use Rattle.std.proofs.lemmas.Bool.{both_ways}
use Rattle.subsume.specs.Bits.{bit_at}
use Rattle.subsume.specs.Solving.{Hopeful}
use Rattle.subsume.proofs.Pruning.{row-read}
use Rattle.subsume.proofs.Searching.{tried, out_none, out-more, one-turn, out-all, gone}
use Rattle.subsume.proofs.table.Table.+search.Goals as goal
use Rattle.subsume.proofs.table.Table.+search.Goals.{then-test+in_default-search, else-test}

pub loop-k-init : goal.loop-k-init
loop-k-init g t c =
    let z = c.args.self.now in
    out_none z.literals.nodes.now z.literals.starts.now z.targets.nodes.now z.targets.starts.now c.settle.new.state.sets c.chosen-chosen.result.words c.in-Some.i c.len-n.result

pub loop-k-preserved : goal.loop-k-preserved
loop-k-preserved g t c =
    let z = c.args.self.now in
    let N = z.literals.nodes.now in
    let S = z.literals.starts.now in
    let M = z.targets.nodes.now in
    let T = z.targets.starts.now in
    let made = c.settle.new.state in
    let i = c.in-Some.i in
    let j = c.in-Some-turn.j in
    let n = c.len-n.result in
    let first = c.chosen-chosen.result.words in
    let inside = c.in-Some.ensures.0 in
    let own = c.in-Some-turn.ensures in
    let row = row-read made.sets i c.index-state-i.result (omega (arith, inside, z.few.0, z.few.2, made.rows)) in
    out-more N S M T made.sets first i n c.loop-k.k c.loop-k.invariant
    (λ h turn.
    let e : h.0 i ≡ j = one-turn N S M T first n (h.0 i) j c.loop-k.k (omega (arith, (h.1 i inside).0, c.len-n.ensures)) own.0 turn own.1 in
    elim c.if-test.branch [
      | then-test+in_default-search w ↦ w.search.ensures.none w.in_default-search.is (tried N S M T z.fronts.now z.slots.now made.sets w.take.result.sets i j z.linked w.take.ensures.taken h e)
      | else-test w ↦ gone N S M T made.sets i j inside (λ x. both_ways c.test.result w.if-test.false (c.test.ensures.1 (sym (ap (λ ws. bit_at ws j) row) ∙ x))) h e
    ])

pub loop-k-preserved-in_default-turn : goal.loop-k-preserved-in_default-turn
loop-k-preserved-in_default-turn g t c =
    let z = c.args.self.now in
    out-more z.literals.nodes.now z.literals.starts.now z.targets.nodes.now z.targets.starts.now c.settle.new.state.sets c.chosen-chosen.result.words c.in-Some.i c.len-n.result c.loop-k.k c.loop-k.invariant
    (λ h turn. c.in_default-turn.ensures (h.0 c.in-Some.i) (omega (arith, (h.1 c.in-Some.i c.in-Some.ensures.0).0, c.len-n.ensures)) turn)

pub returns-clause-none : goal.returns-clause-none
returns-clause-none g t c =
    let z = c.args.self.now in
    let a = z.literals in
    let b = z.targets in
    λ _ h. out-all a.nodes.now a.starts.now b.nodes.now b.starts.now c.settle.new.state.sets c.chosen-chosen.result.words c.in-Some.i c.len-n.result c.loop-k.k c.in-Some.ensures.0 (omega (arith, c.len-n.ensures)) (omega arith) c.loop-k.invariant
    (subst (Hopeful a.nodes.now a.starts.now b.nodes.now b.starts.now) (sym c.settle.ensures.same) h)
