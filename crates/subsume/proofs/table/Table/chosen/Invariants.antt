use Rattle.subsume.specs.Choices.{Uses}
use Rattle.subsume.proofs.table.Table.chosen.Given as goal

abbrev pub invariant-loop-i : goal.invariant-loop-i
invariant-loop-i g l = Uses l.state.picks l.i l.chosen.words
