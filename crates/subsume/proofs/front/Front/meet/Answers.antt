use Rattle.std.proofs.Common.{arith}
use Rattle.subsume.proofs.Standings.{meeting-more, met-all}
use Rattle.subsume.proofs.front.Front.meet.Goals as goal

pub loop-w-preserved : goal.loop-w-preserved
loop-w-preserved g c =
    let left = c.loop-w.left in
    meeting-more c.args.self.now.met.words c.args.left.now.words left.words c.loop-w.w c.both.result (omega (arith, left.sized)) c.both.ensures c.loop-w.invariant

pub returns : goal.returns
returns g c =
    let left = c.loop-w.left in
    met-all c.args.self.now.met.words c.args.left.now.words left.words c.loop-w.w (omega (arith, left.sized, c.args.left.now.sized)) (omega (arith, left.sized)) c.loop-w.invariant
