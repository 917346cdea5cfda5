use Rattle.std.proofs.Common.{ℕ, ◌<◌, length, get_or}
use Rattle.subsume.specs.Fronts.{stands}
use Rattle.subsume.specs.Meeting.{Reached}
use Rattle.subsume.proofs.meeting.finish.Given as goal

abbrev pub invariant-loop-p : goal.invariant-loop-p
invariant-loop-p g l =
    let t = l.targets.view in
    (j : ℕ) → j < length t.starts.now → Reached l.literal.nodes.now l.literal.start l.p t.nodes.now (get_or t.starts.now j 0) (stands l.last j)
