use Rattle.std.proofs.Common.{arith}
use Rattle.subsume.proofs.Sets.{none-past, first-here, first-later, no-later}
use Rattle.subsume.proofs.bits.BitSet.first_from.Goals as goal

pub returns-then-rest-ne0 : goal.returns-then-rest-ne0
returns-then-rest-ne0 g c =
    let long = c.args.self.now.sized in
    first-here c.args.self.now.words c.args.from (omega arith) (omega arith) (omega arith)

pub returns-then-self-v-ne0 : goal.returns-then-self-v-ne0
returns-then-self-v-ne0 g c =
    let long = c.args.self.now.sized in
    first-later c.args.self.now.words c.args.from (omega arith) (omega arith) c.loop-v.v (omega arith) (omega arith) c.loop-v.invariant (omega arith) (omega arith)

pub returns : goal.returns
returns g c =
    let long = c.args.self.now.sized in
    no-later c.args.self.now.words c.args.from (omega arith) (omega arith) (λ u h k. c.loop-v.invariant u h (omega arith))

pub returns-then-w : goal.returns-then-w
returns-then-w g c l h =
    let long = c.args.self.now.sized in
    none-past c.args.self.now.words l (omega (arith, h))
