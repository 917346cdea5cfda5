use Rattle.std.proofs.Common.{◌+◌, sym, subst}
use Rattle.subsume.specs.declared.bits.BitSet.{BitSet}
use Rattle.subsume.specs.Choices.{Uses}
use Rattle.subsume.proofs.Picking.{uses-none, uses-same, uses-more}
use Rattle.subsume.proofs.table.Table.chosen.Goals as goal
use Rattle.subsume.proofs.table.Table.chosen.Goals.{in-Some, in_default}

pub loop-i-init : goal.loop-i-init
loop-i-init g c = uses-none c.args.state.now.picks _ c.new-chosen.ensures

pub loop-i-preserved : goal.loop-i-preserved
loop-i-preserved g c =
    let picks = c.args.state.now.picks in
    let i = c.loop-i.i in
    let old = c.loop-i.chosen in
    elim c.match-state-i.branch [
      | in-Some w ↦ subst (λ (s : BitSet 4). Uses picks (i + 1) s.words) (sym w.chosen-is) (uses-more picks i old.words c.loop-i.invariant w.in-Some.j w.include.new.self.words w.in-Some.is w.include.ensures.here w.include.ensures.others)
      | in_default w ↦ subst (λ (s : BitSet 4). Uses picks (i + 1) s.words) (sym w.chosen-is) (uses-same picks i old.words c.loop-i.invariant w.in_default.is)
    ]
