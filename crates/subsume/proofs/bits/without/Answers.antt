use Rattle.std.proofs.Common.{arith}
use Rattle.std.specs.Int.{w64}
use Rattle.std.proofs.lemmas.Nat.Bits.{bit_at_clear_same, bit_at_clear_other}
use Rattle.subsume.proofs.bits.without.Goals as goal

pub returns-clause-here : goal.returns-clause-here
returns-clause-here c = bit_at_clear_same w64 c.args.word c.args.k (omega arith)

pub returns-clause-others : goal.returns-clause-others
returns-clause-others c l h n = bit_at_clear_other w64 c.args.word c.args.k (omega arith) l h n
