use Rattle.std.proofs.Common.{ℕ, ◌<◌, get_or}
use Rattle.term.specs.Coding.{word_at}
use Rattle.term.proofs.Pairings.{Of, none}
use Rattle.term.proofs.join.variable_of.Given as goal

-- none of the pairs so far is the one that is looked for
abbrev pub invariant-loop-k : goal.invariant-loop-k
invariant-loop-k g l =
    (m : ℕ) → m < l.k → ¬ Of l.a.nodes.now l.b.nodes.now (word_at l.a.nodes.now l.a.start) (word_at l.b.nodes.now l.b.start) (get_or l.pair-items m none)
