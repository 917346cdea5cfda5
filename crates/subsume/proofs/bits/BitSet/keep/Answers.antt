use Rattle.std.proofs.Common.{min, get_or, refl, arith}
use Rattle.std.proofs.lemmas.Nat.Bits.{bit_at_and}
use Rattle.subsume.proofs.Combining.{combined-none, combined-more, combined-all}
use Rattle.subsume.proofs.bits.BitSet.keep.Goals as goal

pub loop-w-init : goal.loop-w-init
loop-w-init g c = combined-none min c.args.other.now.words c.args.self.now.words

pub loop-w-preserved : goal.loop-w-preserved
loop-w-preserved g c =
    let words = c.loop-w.self.words in
    let other = c.args.other.now.words in
    let w = c.loop-w.w in
    combined-more min other c.args.self.now.words words w _ (omega (arith, c.loop-w.self.sized)) (λ m. bit_at_and (get_or words w 0) (get_or other w 0) m) c.loop-w.invariant

pub returns : goal.returns
returns g c =
    combined-all min c.args.other.now.words c.args.self.now.words c.loop-w.self.words c.loop-w.w refl (omega (arith, c.args.self.now.sized)) (omega (arith, c.args.other.now.sized)) c.loop-w.invariant
