use Rattle.std.proofs.Common.{◌*◌, ◌<◌, ◌^◌, get_or, ⊎_elim, arith}
use Rattle.std.proofs.lemmas.Bool.{cases_lt}
use Rattle.subsume.proofs.Retracting.{within-more}
use Rattle.subsume.proofs.Sets.{none-past}
use Rattle.subsume.proofs.lookout.is_within.Goals as goal

pub loop-w-preserved : goal.loop-w-preserved
loop-w-preserved c =
    let other = c.args.other.now.words in
    let fits : get_or other c.loop-w.w 0 < 2 ^ 64 = omega arith in
    within-more c.args.one.now.words other c.loop-w.w fits c.if-one-w-ne0.false c.loop-w.invariant

pub returns : goal.returns
returns c =
    let one = c.args.one.now in
    λ _ k b.
    ⊎_elim
    (λ (h : k < 64 * c.loop-w.w). c.loop-w.invariant k h b)
    (λ h. absurd (omega (arith, b, none-past one.words k (omega (arith, h, one.sized)))))
    (cases_lt k (64 * c.loop-w.w))
