use Rattle.std.proofs.Common.{◌≡◌, ℕ}
use Rattle.subsume.specs.Bits.{bit_at}
use Rattle.subsume.proofs.table.Table.enqueue.Given as goal

abbrev pub invariant-loop-slot : goal.invariant-loop-slot
invariant-loop-slot g l = (k : ℕ) → bit_at l.initial.queue.words k ≡ 1 → bit_at l.queue.words k ≡ 1
