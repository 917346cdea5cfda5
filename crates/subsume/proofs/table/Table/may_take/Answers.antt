use Rattle.std.proofs.Common.{◌∷◌, [], ◌++◌, sym, refl, ap, ◌∙◌, arith}
use Rattle.std.proofs.lemmas.Bool.{both_ways}
use Rattle.bounded.specs.Elems.{elems}
use Rattle.subsume.specs.Bits.{bit_at}
use Rattle.subsume.specs.Choices.{left}
use Rattle.subsume.proofs.Firsts.{begun-more, none_left, none_searched}
use Rattle.subsume.proofs.Pruning.{row-read}
use Rattle.subsume.proofs.table.Table.may_take.Goals as goal

pub returns-in-None : goal.returns-in-None
returns-in-None g c =
    let t = c.args.self.now in
    let a = t.literals in
    let b = t.targets in
    let front = elems c.args.choice.now in
    let j = c.args.j in
    let state = c.args.state.now in
    let next = c.take.result in
    let begun = c.requires.begun in
    let taken = rw c.len-i.ensures.value at c.take.ensures.taken in
    λ _.
    none_searched a.nodes.now a.starts.now b.nodes.now b.starts.now (front ++ j ∷ []) next.sets next.picks
    (begun-more a.nodes.now a.starts.now b.nodes.now b.starts.now t.fronts.now t.slots.now front _ state.sets next.sets state.picks next.picks j t.linked taken begun (c.take.ensures.picked begun.picked) c.requires.literal c.requires.target refl)
    (c.search.ensures.none c.in-None.is)

pub returns-then-not-test : goal.returns-then-not-test
returns-then-not-test g c =
    let t = c.args.self.now in
    let front = elems c.args.choice.now in
    let state = c.args.state.now in
    let i = c.len-i.result in
    let row = row-read state.sets i c.index-state-i.result (omega (arith, c.requires.literal, t.few.0, t.few.2, state.rows)) in
    λ _.
    none_left t.literals.nodes.now t.literals.starts.now t.targets.nodes.now t.targets.starts.now front c.requires.literal c.args.j state.sets state.picks c.requires.begun
    (λ x. both_ways _ c.if-not-test.true (c.test.ensures.1 (sym (ap (λ ws. bit_at ws c.args.j) row) ∙ ap (λ n. left state.sets n c.args.j) c.len-i.ensures.value ∙ x)))
