use Rattle.std.proofs.Common.{◌≡◌, ℕ, ◌<◌, get_or}
use Rattle.std.proofs.Math.Logic.{◌≢◌}
use Rattle.subsume.specs.Bits.{bit_at}
use Rattle.subsume.proofs.meeting.agree.Given as goal

abbrev pub invariant-loop-j : goal.invariant-loop-j
invariant-loop-j l = record {
  same : (k : ℕ) → get_or l.labels k 0 ≡ get_or l.others k 0 → bit_at l.left.words k ≡ bit_at l.initial.left.words k;
  ended : (k : ℕ) → k < l.j → get_or l.labels k 0 ≢ get_or l.others k 0 → bit_at l.left.words k ≡ 0;
}
