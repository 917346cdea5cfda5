use Rattle.std.proofs.Common.{drop}
use Rattle.term.specs.Coding.{word_at}
use Rattle.witness.specs.Steps.{noted}
use Rattle.witness.specs.Witness.{met}
use Rattle.witness.proofs.Noting.{Beside}
use Rattle.witness.proofs.witnesses.note_word.Given as goal

abbrev pub invariant-loop-node : goal.invariant-loop-node
invariant-loop-node l =
    Beside (drop l.node-index l.node-items) l.b.nodes.now l.q l.seen l.list
    (noted (met (word_at l.a.nodes.now l.a.start) (word_at l.b.nodes.now l.b.start) l.b.start) l.initial.seen l.initial.list)
