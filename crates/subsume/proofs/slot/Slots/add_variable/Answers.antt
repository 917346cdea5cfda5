use Rattle.std.proofs.Common.{◌<◌, length, get_or, sym, ap, ◌∙◌, subst, arith}
use Rattle.bounded.specs.Elems.{elems}
use Rattle.subsume.specs.declared.front.Front.{Front}
use Rattle.subsume.specs.declared.slot.Slot.{Slot}
use Rattle.subsume.specs.Choices.{no_front, labels_of}
use Rattle.subsume.specs.Solving.{Named}
use Rattle.subsume.proofs.Pruning.{item}
use Rattle.subsume.proofs.slot.Slots.add_variable.Goals as goal

pub returns-in-Some-clause-left : goal.returns-in-Some-clause-left
returns-in-Some-clause-left g c left j h θ t =
    let C = g.row.N in
    let N = c.args.literals.nodes.now in
    let S = c.args.literals.starts.now in
    let M = c.args.targets.now.view.nodes.now in
    let T = c.args.targets.now.view.starts.now in
    let fronts = elems c.args.self.now.fronts in
    let slot = c.in-Some.slot in
    let s = c.in-Some.ensures in
    let all = c.as_slice-fronts.ensures.value in
    let linked : Named N S M T slot.literal slot.variable (labels_of fronts slot) × (slot.front < length fronts) =
    subst (λ (y : Slot). Named N S M T y.literal y.variable (labels_of fronts y) × (y.front < length fronts)) s.2 ((c.requires.linked s.0 s.1).1, (c.requires.linked s.0 s.1).2) in
    let named : Named N S M T c.args.i c.args.x (labels_of fronts slot) = rw (s.3.0, s.3.1) at linked.0 in
    let one = item c.as_slice-fronts.result.now fronts c.args.s c.index-fronts-s.result (no_front C) all (omega (arith, c.requires.front, ap length all)) c.index-fronts-s.is in
    let other = item c.as_slice-fronts.result.now fronts slot.front c.index-fronts-slot.result (no_front C) all (omega (arith, linked.1, ap length all)) c.index-fronts-slot.is in
    let labels = λ (z : Front C). get_or z.labels j 0 in
    c.agree.ensures.same j
    (ap labels (sym c.index-fronts-s.is) ∙ ap labels (sym one) ∙ c.requires.named j h θ t ∙ sym (named j h θ t) ∙ ap labels other ∙ ap labels c.index-fronts-slot.is)
    ∙ left j h θ t

pub returns-in-None-clause-linked : goal.returns-in-None-clause-linked
returns-in-None-clause-linked g c =
    let t = c.args.targets.now.view in
    rw c.add_slot.ensures.same
    (c.add_slot.ensures.linked c.args.literals.nodes.now c.args.literals.starts.now t.nodes.now t.starts.now c.requires.linked c.requires.literal c.requires.front c.requires.named)
