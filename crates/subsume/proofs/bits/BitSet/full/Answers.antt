use Rattle.subsume.proofs.Sets.{all-in}
use Rattle.subsume.proofs.bits.BitSet.full.Goals as goal

pub returns : goal.returns
returns g c = all-in g.row.W
