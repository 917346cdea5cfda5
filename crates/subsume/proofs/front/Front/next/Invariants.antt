use Rattle.std.proofs.Common.{◌≡◌, ℕ, ◌<◌, ◌≤◌, length, get_or}
use Rattle.subsume.specs.Bits.{bit_at}
use Rattle.subsume.specs.Fronts.{where_set, stands}
use Rattle.subsume.specs.Meeting.{Advanced}
use Rattle.subsume.proofs.front.Front.next.Given as goal

abbrev pub invariant-loop-j : goal.invariant-loop-j
invariant-loop-j g l = record {
  advanced : (k : ℕ) → k < l.j → Advanced l.node l.targets.view.nodes.now (stands l.self k) (where_set (bit_at l.met.words k) (get_or l.at k 0));
  rest : (k : ℕ) → l.j ≤ k → bit_at l.met.words k ≡ 0;
  size : length l.at ≡ g.row.N;
}
