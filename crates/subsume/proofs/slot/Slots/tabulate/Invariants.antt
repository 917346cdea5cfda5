use Rattle.std.proofs.Common.{◌≡◌, length}
use Rattle.bounded.specs.Elems.{elems}
use Rattle.subsume.proofs.Columns.{Tabled}
use Rattle.subsume.proofs.slot.Slots.tabulate.Given as goal

abbrev pub invariant-loop-r : goal.invariant-loop-r
invariant-loop-r g l = record {
  rows : l.self.rows ≡ l.initial.self.rows;
  fronts : l.self.fronts ≡ l.initial.self.fronts;
  long : length (elems l.self.columns) ≡ l.r;
  tabled : Tabled (elems l.self.fronts) l.n l.r (elems l.self.columns);
}
