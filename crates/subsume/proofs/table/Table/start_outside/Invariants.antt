use Rattle.std.proofs.Common.{◌≡◌, length}
use Rattle.subsume.specs.Solving.{SparedOutside}
use Rattle.subsume.proofs.Avoiding.{Cut}
use Rattle.subsume.proofs.table.Table.start_outside.Given as goal

abbrev pub invariant-loop-i : goal.invariant-loop-i
invariant-loop-i g l = Cut l.gone.words l.initial.sets l.sets l.i

abbrev pub invariant-loop-j : goal.invariant-loop-j
invariant-loop-j g l = record {
  spared : SparedOutside l.self.literals.nodes.now l.self.literals.starts.now l.self.targets.nodes.now l.self.targets.starts.now l.kept.words l.gone.words l.sets;
  long : length l.sets ≡ g.row.N;
}
