use Rattle.std.proofs.Common.{◌≡◌, ℕ, ◌<◌, Some, length, get_or}
use Rattle.subsume.specs.Bits.{bit_at}
use Rattle.subsume.specs.Fronts.{where_set}
use Rattle.subsume.proofs.front.Front.begin.Given as goal

abbrev pub invariant-loop-j : goal.invariant-loop-j
invariant-loop-j g l = ((k : ℕ) → k < l.j → where_set (bit_at l.met.words k) (get_or l.at k 0) ≡ Some (get_or l.targets.view.starts.now k 0)) × (length l.at ≡ g.row.N)
