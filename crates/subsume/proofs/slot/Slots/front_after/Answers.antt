use Rattle.std.proofs.Common.{length, sym, subst, ap, ◌∙◌, arith, rules}
use Rattle.bounded.specs.Elems.{elems}
use Rattle.subsume.specs.declared.front.Front.{Front}
use Rattle.subsume.specs.Choices.{no_front}
use Rattle.subsume.specs.Fronts.{stands, Beyond}
use Rattle.subsume.proofs.Fronts.{grown-by}
use Rattle.subsume.proofs.Pruning.{item}
use Rattle.subsume.proofs.slot.Slots.front_after.Goals as goal

pub next-front-requires : goal.next-front-requires
next-front-requires g c =
    let C = g.row.N in
    let fronts = elems c.args.self.now.fronts in
    let here = item c.as_slice.result.now fronts c.args.r c.index-as_slice-r.result (no_front C) c.as_slice.ensures.value (omega (arith, c.requires.front, ap length c.as_slice.ensures.value)) c.index-as_slice-r.is in
    (search rules, (search rules, (c.requires.few, λ j q h e. c.requires.inside j q h (ap (λ (z : Front C). stands z j) here ∙ e))))

pub returns-clause-grown : goal.returns-clause-grown
returns-clause-grown g c =
    let t = c.args.targets.now.view in
    let C = g.row.N in
    let fronts = elems c.args.self.now.fronts in
    let here = item c.as_slice.result.now fronts c.args.r c.index-as_slice-r.result (no_front C) c.as_slice.ensures.value (omega (arith, c.requires.front, ap length c.as_slice.ensures.value)) c.index-as_slice-r.is in
    grown-by t.nodes.now t.starts.now c.args.r c.args.node fronts (elems c.add_front.new.self.fronts) c.next-front.result c.add_front.result c.add_front.ensures.pushed c.next-front.ensures.parent
    (subst (λ (z : Front C). Beyond t.nodes.now t.starts.now z c.args.node c.next-front.result) (sym here) c.next-front.ensures.beyond)
