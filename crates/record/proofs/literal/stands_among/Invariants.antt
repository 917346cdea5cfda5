use Rattle.std.proofs.Common.{◌≡◌, drop}
use Rattle.term.specs.Coding.{word_at}
use Rattle.record.specs.Clauses.{stands}
use Rattle.record.specs.Reads.{words_from}
use Rattle.record.proofs.literal.stands_among.Given as goal

-- the word is one of all just where it is one of those still to be looked at
abbrev pub invariant-loop-start : goal.invariant-loop-start
invariant-loop-start l =
    stands (word_at l.word.nodes.now l.word.start) (words_from l.word.nodes.now (drop l.start-index l.starts)) ≡ stands (word_at l.word.nodes.now l.word.start) (words_from l.word.nodes.now l.starts)
