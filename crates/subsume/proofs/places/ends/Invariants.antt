use Rattle.std.proofs.Common.{◌≡◌, ℕ, ◌<◌, length, get_or}
use Rattle.term.specs.Coding.{Next}
use Rattle.subsume.proofs.places.ends.Given as goal

abbrev pub invariant-loop-start : goal.invariant-loop-start
invariant-loop-start g l = ((q : ℕ) → q < l.start → Next l.targets.nodes.now q (get_or l.ends q 0)) × (length l.ends ≡ g.row.P)
