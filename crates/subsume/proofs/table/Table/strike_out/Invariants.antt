use Rattle.std.proofs.Common.{◌≡◌}
use Rattle.subsume.proofs.Avoiding.{Cut}
use Rattle.subsume.proofs.table.Table.strike_out.Given as goal

abbrev pub invariant-loop-i : goal.invariant-loop-i
invariant-loop-i g l = record {
  cut : Cut l.gone.words l.initial.state.sets l.state.sets l.i;
  picks : l.state.picks ≡ l.initial.state.picks;
}
