use Rattle.std.proofs.Common.{◌≡◌, ◌<◌, drop}
use Rattle.subsume.specs.Meeting.{mixed}
use Rattle.subsume.proofs.places.hash.Given as goal

abbrev pub invariant-loop-node : goal.invariant-loop-node
invariant-loop-node l = (mixed l.hash (drop l.node-index l.node-items) ≡ mixed 0 l.node-items) × (l.hash < 4096)
