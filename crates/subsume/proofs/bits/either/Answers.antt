use Rattle.std.proofs.lemmas.Nat.Bits.{bit_at_or}
use Rattle.subsume.proofs.bits.either.Goals as goal

pub returns : goal.returns
returns c k = bit_at_or c.args.word c.args.other k
