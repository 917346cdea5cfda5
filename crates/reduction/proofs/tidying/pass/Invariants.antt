use Rattle.std.proofs.Common.{◌≡◌, ℕ, None, length}
use Rattle.clauses.specs.Clauses.{literals_at}
use Rattle.subsume.specs.Choices.{Picked, pick}
use Rattle.subsume.specs.Solving.{SparedOutside}
use Rattle.reduction.specs.Tidyings.{Inside, Standing}
use Rattle.reduction.proofs.tidying.pass.Given as goal

abbrev pub invariant-loop-i : goal.invariant-loop-i
invariant-loop-i g l = record {
  inside : Inside (length l.table.targets.nodes.now) l.decided;
  standing : Standing l.table.targets.nodes.now (literals_at l.table.targets.nodes.now l.table.targets.starts.now) l.mapped.words (literals_at l.table.literals.nodes.now l.table.literals.starts.now) l.i l.decided;
  picked : Picked l.state.sets (length l.table.literals.starts.now) (length l.table.targets.starts.now) l.state.picks;
  none : (k : ℕ) → pick l.state.picks k ≡ None;
  spared : SparedOutside l.table.literals.nodes.now l.table.literals.starts.now l.table.targets.nodes.now l.table.targets.starts.now l.decided.held.words l.decided.gone.words l.state.sets;
}
