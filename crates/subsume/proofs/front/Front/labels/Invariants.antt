use Rattle.std.proofs.Common.{◌≡◌, ℕ, ◌<◌, Some, length, get_or}
use Rattle.term.specs.Coding.{word_at}
use Rattle.subsume.specs.Fronts.{stands}
use Rattle.subsume.specs.Meeting.{place_of}
use Rattle.subsume.proofs.front.Front.labels.Given as goal

abbrev pub invariant-loop-j : goal.invariant-loop-j
invariant-loop-j g l =
    let nodes = l.targets.view.nodes.now in
    ((k q : ℕ) → k < l.j → stands l.self k ≡ Some q → get_or l.labels k 0 ≡ place_of nodes (word_at nodes q)) × (length l.labels ≡ g.row.N)
