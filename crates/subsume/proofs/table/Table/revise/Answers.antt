use Rattle.std.proofs.Common.{length}
use Rattle.subsume.proofs.Pruning.{pruned-none}
use Rattle.subsume.proofs.table.Table.revise.Goals as goal
use Rattle.subsume.proofs.table.Table.revise.Goals.{in-Some-shared, in_default-shared}

pub returns-then-x : goal.returns-then-x
returns-then-x g c =
    let t = c.args.self.now in
    elim c.match-shared.branch [
      | in-Some-shared w ↦ rw w.sets-is w.strike.ensures
      | in_default-shared w ↦ rw w.sets-is (pruned-none t.fronts.now t.slots.now (length t.literals.starts.now) (length t.targets.starts.now) c.args.sets.now)
    ]

pub returns-else-x : goal.returns-else-x
returns-else-x g c =
    let t = c.args.self.now in
    elim c.match-shared.branch [
      | in-Some-shared w ↦ rw w.sets-is w.strike.ensures
      | in_default-shared w ↦ rw w.sets-is (pruned-none t.fronts.now t.slots.now (length t.literals.starts.now) (length t.targets.starts.now) c.args.sets.now)
    ]
