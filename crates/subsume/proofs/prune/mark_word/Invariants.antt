use Rattle.std.proofs.Common.{◌≡◌, ℕ}
use Rattle.std.specs.Int.{bit_at as bit}
use Rattle.subsume.specs.Bits.{bit_at}
use Rattle.subsume.proofs.Marking.{Half, Told}
use Rattle.subsume.proofs.prune.mark_word.Given as goal

abbrev pub invariant-loop-rest : goal.invariant-loop-rest
invariant-loop-rest g l = record {
  here : Half l.labels l.word l.rest l.marks.words;
  others : (m : ℕ) → bit_at l.initial.marks.words m ≡ 1 → bit_at l.marks.words m ≡ 1;
  only : Told l.labels l.word l.initial.marks.words l.marks.words;
  rest : (k : ℕ) → bit l.rest k ≡ 1 → bit l.word k ≡ 1;
}

abbrev pub decreases-loop-rest : goal.decreases-loop-rest
decreases-loop-rest g l = l.rest
