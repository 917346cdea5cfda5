use Rattle.std.proofs.Common.{arith}
use Rattle.subsume.proofs.Avoiding.{removing-more, removed-all}
use Rattle.subsume.proofs.outside.remove.Goals as goal

pub loop-w-preserved : goal.loop-w-preserved
loop-w-preserved c =
    let left = c.loop-w.left in
    removing-more c.args.gone.now.words c.args.left.now.words left.words c.loop-w.w c.minus.result (omega (arith, left.sized)) c.minus.ensures c.loop-w.invariant

pub returns-clause-removed : goal.returns-clause-removed
returns-clause-removed c =
    let left = c.loop-w.left in
    removed-all c.args.gone.now.words c.args.left.now.words left.words c.loop-w.w (omega (arith, left.sized)) c.loop-w.invariant
