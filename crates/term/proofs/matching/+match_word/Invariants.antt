use Rattle.std.proofs.Common.{◌-◌, length}
use Rattle.term.proofs.Matchings.{Going}
use Rattle.term.proofs.matching.+match_word.Given as goal

-- the nodes left fall
abbrev pub decreases-match_word : goal.decreases-match_word
decreases-match_word l = length l.pattern.nodes.now - l.pattern.start

abbrev pub invariant-loop : goal.invariant-loop
invariant-loop l =
    Going l.pattern.nodes.now l.target.nodes.now l.end (l.end - l.counter) l.p l.q l.bound l.initial.p l.initial.q l.initial.bound
