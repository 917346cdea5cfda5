use Rattle.std.proofs.Common.{◌≡◌, ℕ, ◌<◌}
use Rattle.term.specs.Coding.{word_at}
use Rattle.subsume.proofs.places.first_place.Given as goal

abbrev pub invariant-loop-p : goal.invariant-loop-p
invariant-loop-p l = (q : ℕ) → q < l.p → word_at l.word.nodes.now q ≡ word_at l.word.nodes.now l.word.start → ⊥
