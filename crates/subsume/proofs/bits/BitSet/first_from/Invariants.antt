use Rattle.std.proofs.Common.{◌≡◌, ℕ, ◌/◌, ◌<◌, get_or}
use Rattle.subsume.proofs.bits.BitSet.first_from.Given as goal

abbrev pub invariant-loop-v : goal.invariant-loop-v
invariant-loop-v g l = (u : ℕ) → l.from / 64 < u → u < l.v → get_or l.self.words u 0 ≡ 0
