use Rattle.std.proofs.Common.{◌≡◌, ◌+◌, length, drop}
use Rattle.std.proofs.Math.Seq.{paste}
use Rattle.word.specs.Packed.{packed}
use Rattle.word.proofs.writing.write_nodes.Given as goal

-- what is still to be put makes the buffer what all the nodes would make it
abbrev pub invariant-loop-node : goal.invariant-loop-node
invariant-loop-node l =
    (l.to + length (packed (drop l.node-index l.nodes)) ≡ l.at + length (packed l.nodes))
    × (paste l.out l.to (packed (drop l.node-index l.nodes)) (length (packed (drop l.node-index l.nodes))) ≡ paste l.initial.out l.at (packed l.nodes) (length (packed l.nodes)))
