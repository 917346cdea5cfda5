use Rattle.std.proofs.Common.{◌≡◌, ℕ, ◌*◌, ◌<◌}
use Rattle.subsume.specs.Bits.{bit_at}
use Rattle.subsume.proofs.lookout.is_within.Given as goal

abbrev pub invariant-loop-w : goal.invariant-loop-w
invariant-loop-w l = (k : ℕ) → k < 64 * l.w → bit_at l.one.words k ≡ 1 → bit_at l.other.words k ≡ 1
