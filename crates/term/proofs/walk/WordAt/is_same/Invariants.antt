use Rattle.std.proofs.Common.{◌-◌, length}
use Rattle.term.proofs.Beside.{Beside}
use Rattle.term.proofs.walk.WordAt.is_same.Given as goal

-- the two words are the same just if the words still to come are
abbrev pub invariant-loop-need : goal.invariant-loop-need
invariant-loop-need l = Beside l.self.nodes.now l.other.nodes.now l.self.start l.other.start l.left l.right l.need

-- the nodes left fall
abbrev pub decreases-loop-need : goal.decreases-loop-need
decreases-loop-need l = length l.self.nodes.now - l.left
