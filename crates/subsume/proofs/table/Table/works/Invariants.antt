use Rattle.std.proofs.Common.{◌≡◌, ℕ, ◌<◌, length, get_or, Some}
use Rattle.subsume.specs.Choices.{pick}
use Rattle.subsume.proofs.table.Table.works.Given as goal

abbrev pub invariant-loop-i : goal.invariant-loop-i
invariant-loop-i g l = (length l.picks ≡ length l.initial.picks) × ((k : ℕ) → k < l.i → pick l.picks k ≡ Some (get_or l.choice k 0))
