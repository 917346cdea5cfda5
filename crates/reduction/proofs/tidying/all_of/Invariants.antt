use Rattle.std.proofs.Common.{◌≡◌, ℕ, ◌<◌}
use Rattle.subsume.specs.Bits.{bit_at}
use Rattle.reduction.proofs.tidying.all_of.Given as goal

abbrev pub invariant-loop-j : goal.invariant-loop-j
invariant-loop-j l = (k : ℕ) → k < l.j → bit_at l.places.words k ≡ 1
