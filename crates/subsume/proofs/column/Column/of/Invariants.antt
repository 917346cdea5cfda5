use Rattle.std.proofs.Common.{◌≡◌, length}
use Rattle.subsume.proofs.Columns.{Filled}
use Rattle.subsume.proofs.column.Column.of.Given as goal

abbrev pub invariant-loop-j : goal.invariant-loop-j
invariant-loop-j l = record {
  long : length l.supports ≡ 64;
  filled : Filled l.labels l.j l.supports l.others;
}
