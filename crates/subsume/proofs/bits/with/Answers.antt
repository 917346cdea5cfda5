use Rattle.std.proofs.Common.{arith}
use Rattle.std.specs.Int.{w16}
use Rattle.std.proofs.lemmas.Nat.Bits.{bit_at_set_same, bit_at_set_other}
use Rattle.subsume.proofs.bits.with.Goals as goal

pub returns-clause-here : goal.returns-clause-here
returns-clause-here c = bit_at_set_same w16 c.args.word c.args.k (omega arith)

pub returns-clause-others : goal.returns-clause-others
returns-clause-others c l n = bit_at_set_other w16 c.args.word c.args.k (omega arith) l n
