use Rattle.std.proofs.Common.{◌<◌, length, sym, ap, ◌∙◌, subst, arith, rules}
use Rattle.subsume.specs.declared.bits.BitSet.{BitSet}
use Rattle.subsume.specs.declared.slot.Slot.{Slot}
use Rattle.subsume.proofs.Pruning.{row-read, shared-more}
use Rattle.subsume.proofs.table.Table.shared.Goals as goal

pub labels_left-own-requires : goal.labels_left-own-requires
labels_left-own-requires g c =
    let t = c.args.self.now in
    let s = c.in-Some.ensures in
    (search rules, (search rules, subst (λ (z : Slot). z.front < length t.fronts.now) s.2 (t.linked s.0 s.1).2))

pub loop-preserved : goal.loop-preserved
loop-preserved g c =
    let t = c.args.self.now in
    let m = length t.literals.starts.now in
    let n = length t.targets.starts.now in
    let slots = t.slots.now in
    let sets = c.args.sets.now in
    let slot = c.in-Some.slot.now in
    let s = c.in-Some.ensures in
    let own : slot.literal < m = subst (λ (z : Slot). z.literal < m) s.2 (t.linked s.0 s.1).0 in
    let before = c.loop.marks in
    let after = c.keep.new.self in
    shared-more t.fronts.now slots m n c.args.x slot s.0 s.1 s.2 s.3 sets _ c.labels_left-own.result.words before.words after.words own
    (row-read sets slot.literal c.index-sets-slot.result (omega (arith, own, c.requires)) ∙ ap (λ (z : BitSet 4). z.words) (sym c.index-sets-slot.is))
    c.labels_left-own.ensures
    (before.sized ∙ sym after.sized)
    (c.labels_left-own.result.sized ∙ sym after.sized)
    c.keep.ensures
    c.loop.invariant
