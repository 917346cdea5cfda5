use Rattle.subsume.specs.Bits.{Within}
use Rattle.subsume.proofs.table.Table.enqueue_beside.Given as goal

abbrev pub invariant-loop-slot : goal.invariant-loop-slot
invariant-loop-slot g l = Within l.initial.queue.words l.queue.words

abbrev pub invariant-loop : goal.invariant-loop
invariant-loop g l = Within l.initial.queue.words l.queue.words
