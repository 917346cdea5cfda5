use Rattle.subsume.specs.Choices.{row}
use Rattle.subsume.proofs.Retracting.{Others}
use Rattle.subsume.proofs.table.Table.supported.Given as goal

abbrev pub invariant-loop-w : goal.invariant-loop-w
invariant-loop-w g l =
    let t = l.self in
    Others t.literals.nodes.now t.literals.starts.now t.targets.nodes.now t.targets.starts.now (row t.candidates l.i) l.gone.words l.i l.slot.variable l.label l.w
