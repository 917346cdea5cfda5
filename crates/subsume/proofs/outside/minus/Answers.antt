use Rattle.std.proofs.Common.{min, ap, ◌∙◌}
use Rattle.std.specs.Int.{w64, bit_not, bit_at as bit}
use Rattle.std.proofs.lemmas.Nat.Bits.{bit_at_and, bit_at_not}
use Rattle.subsume.proofs.outside.minus.Goals as goal

pub returns : goal.returns
returns c k small = bit_at_and c.args.word (bit_not w64 c.args.other) k ∙ ap (min (bit c.args.word k)) (bit_at_not w64 c.args.other k c.ranges.other.fits small)
