use Rattle.std.proofs.lemmas.Nat.Bits.{bit_at_and}
use Rattle.subsume.proofs.bits.both.Goals as goal

pub returns : goal.returns
returns c k = bit_at_and c.args.word c.args.other k
