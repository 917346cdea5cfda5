use Rattle.std.proofs.Common.{ℕ, subst}
use Rattle.subsume.specs.Retracting.{Moves}
use Rattle.subsume.proofs.table.Table.must_move.Goals as goal

pub returns-then-not-supported : goal.returns-then-not-supported
returns-then-not-supported g c =
    let t = c.args.self.now.targets in
    λ _ kept.
    subst (λ (x : ℕ). Moves kept c.args.gone.now.words t.nodes.now t.starts.now x) c.in-Some.ensures.3 (c.supported.ensures c.if-not-supported.true kept)
