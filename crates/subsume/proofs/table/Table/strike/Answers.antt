use Rattle.std.proofs.Common.{◌<◌, length, set, sym, subst, arith}
use Rattle.std.proofs.lemmas.List.{get_or_default}
use Rattle.subsume.specs.declared.slot.Slot.{Slot}
use Rattle.subsume.specs.Choices.{no_front, front_at, labels_of, Pruned}
use Rattle.subsume.proofs.Pruning.{row-read, sifted-first, sift-prunes}
use Rattle.subsume.proofs.table.Table.strike.Goals as goal
use Rattle.subsume.proofs.table.Table.strike.Goals.{After-sift}
use Rattle.subsume.proofs.table.Table.strike.Given.{Over}

sifted : (g : Over) (c : After-sift g) → Pruned c.args.self.now.fronts.now c.args.self.now.slots.now (length c.args.self.now.literals.starts.now) (length c.args.self.now.targets.starts.now) c.args.sets.now (set c.loop.sets c.in-Some.slot.now.literal c.sift.new.left)
sifted g c =
    let t = c.args.self.now in
    let m = length t.literals.starts.now in
    let n = length t.targets.starts.now in
    let slots = t.slots.now in
    let slot = c.in-Some.slot.now in
    let s = c.in-Some.ensures in
    let own : slot.literal < m = subst (λ (z : Slot). z.literal < m) s.2 (t.linked s.0 s.1).0 in
    let front : slot.front < length t.fronts.now = subst (λ (z : Slot). z.front < length t.fronts.now) s.2 (t.linked s.0 s.1).2 in
    let inside : slot.literal < length c.loop.sets = omega (arith, own, c.requires.rows, c.loop.auto.sets) in
    let same = sym (get_or_default t.fronts.now slot.front (no_front g.row.N) c.index-self-slot.result front) in
    sift-prunes t.fronts.now slots m n c.args.x slot s.0 s.1 s.2 s.3 c.args.sets.now c.loop.sets _ c.args.marks.now.words c.sift.new.left inside
    (row-read c.loop.sets slot.literal c.index-sets-slot.result inside) c.requires.shared c.loop.invariant
    (sifted-first (labels_of t.fronts.now slot) n (omega (arith, t.few.1, (front_at t.fronts.now slot.front).sized)) _ _ _ (rw (c.len-n.ensures, same) at c.sift.ensures.sifted))

pub returns-then-is_empty : goal.returns-then-is_empty
returns-then-is_empty g c = sifted g (goal.at.returns-then-is_empty g c).After-sift

pub loop-preserved : goal.loop-preserved
loop-preserved g c = sifted g (goal.at.loop-preserved g c).After-sift
