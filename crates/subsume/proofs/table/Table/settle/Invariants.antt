use Rattle.std.proofs.Common.{◌≡◌, ℕ, ◌≤◌, List, length}
use Rattle.subsume.specs.Choices.{Picked, Clear, undone}
use Rattle.subsume.proofs.table.Table.settle.Given as goal

abbrev pub invariant-loop-i : goal.invariant-loop-i
invariant-loop-i g l = record {
  picked : Picked l.state.sets (length l.self.literals.starts.now) (length l.self.targets.starts.now) l.state.picks;
  fewer : undone l.state.picks ≤ undone l.initial.state.picks;
  same : l.state.sets ≡ l.initial.state.sets;
  clear : (gone : List ℕ) → Clear gone l.initial.state.sets (length l.self.literals.starts.now) (length l.self.targets.starts.now) l.initial.state.picks → Clear gone l.state.sets (length l.self.literals.starts.now) (length l.self.targets.starts.now) l.state.picks;
}
