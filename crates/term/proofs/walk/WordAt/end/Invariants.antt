use Rattle.std.proofs.Common.{◌+◌, ◌-◌, ◌<◌, length}
use Rattle.term.proofs.Walked.{Walked}
use Rattle.term.proofs.walk.WordAt.end.Given as goal

-- what stands after the words that are still to come is what stands after the word
abbrev pub invariant-loop-need : goal.invariant-loop-need
invariant-loop-need l = (l.self.start < l.end + l.need) × Walked l.self.nodes.now 1 l.need l.end l.self.start

-- the nodes left fall
abbrev pub decreases-loop-need : goal.decreases-loop-need
decreases-loop-need l = length l.self.nodes.now - l.end
