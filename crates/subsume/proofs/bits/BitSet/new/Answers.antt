use Rattle.subsume.proofs.Sets.{none-in}
use Rattle.subsume.proofs.bits.BitSet.new.Goals as goal

pub returns : goal.returns
returns g c = none-in g.row.W
