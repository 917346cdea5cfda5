use Rattle.std.proofs.Common.{◌≡◌, ◌+◌, ◌-◌, ◌*◌, ◌≤◌, length, take}
use Rattle.bounded.specs.Elems.{elems}
use Rattle.word.specs.Reads.{read_words}
use Rattle.word.proofs.reading.read_each.Given as goal

-- the words still needed, read after those that are held, are what all the words would be
abbrev pub invariant-loop-need : goal.invariant-loop-need
invariant-loop-need g l =
    (l.need ≤ l.count + 8 * length (elems l.nodes))
    × (take (length (elems l.initial.nodes)) (elems l.nodes) ≡ elems l.initial.nodes)
    × (length (elems l.initial.nodes) ≤ length (elems l.nodes))
    × (read_words l.need (g.row.N - length (elems l.nodes)) l.seen l.input l.at (elems l.nodes)
    ≡ read_words l.count (g.row.N - length (elems l.initial.nodes)) l.initial.seen l.input l.initial.at (elems l.initial.nodes))

abbrev pub decreases-loop-need : goal.decreases-loop-need
decreases-loop-need g l = g.row.N - length (elems l.nodes)
