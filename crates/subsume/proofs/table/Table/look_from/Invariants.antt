use Rattle.std.proofs.Common.{◌≡◌, ℕ, true}
use Rattle.clauses.specs.Clauses.{literals_at}
use Rattle.subsume.specs.Bits.{bit_at, Within}
use Rattle.subsume.specs.Retracting.{Spares}
use Rattle.subsume.proofs.table.Table.look_from.Given as goal

abbrev pub invariant-loop-slot : goal.invariant-loop-slot
invariant-loop-slot g l = record {
  more : Within l.initial.gone.words l.gone.words;
  apart : (j : ℕ) → bit_at l.kept.words j ≡ 1 → bit_at l.gone.words j ≡ bit_at l.initial.gone.words j;
  spares : Spares l.kept.words l.initial.gone.words l.gone.words (literals_at l.self.targets.nodes.now l.self.targets.starts.now) true;
}
