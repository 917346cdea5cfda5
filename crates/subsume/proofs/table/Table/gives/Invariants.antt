use Rattle.std.proofs.Common.{◌≡◌, ℕ, ◌+◌, ◌*◌, ◌<◌, ◌⊎◌, length}
use Rattle.std.specs.Int.{bit_at as bit}
use Rattle.subsume.specs.Retracting.{Differs}
use Rattle.subsume.proofs.table.Table.gives.Given as goal

-- what is left to be looked at, or gives the variable another label
abbrev pub invariant-loop-rest : goal.invariant-loop-rest
invariant-loop-rest g l =
    (k : ℕ) → bit l.word k ≡ 1 → 64 * l.w + k < length l.self.targets.starts.now
    → (bit l.rest k ≡ 1) ⊎ Differs l.self.literals.nodes.now l.self.literals.starts.now l.self.targets.nodes.now l.self.targets.starts.now l.slot.literal l.slot.variable (64 * l.w + k) l.label

abbrev pub decreases-loop-rest : goal.decreases-loop-rest
decreases-loop-rest g l = l.rest
