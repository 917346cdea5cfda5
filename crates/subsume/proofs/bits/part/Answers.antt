use Rattle.std.proofs.Common.{arith}
use Rattle.subsume.proofs.Sets.{parted}
use Rattle.subsume.proofs.bits.part.Goals as goal

pub returns : goal.returns
returns c = parted c.args.word c.requires (omega arith)
