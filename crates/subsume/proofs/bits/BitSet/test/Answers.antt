use Rattle.std.proofs.lemmas.Bool.Decides.{Decides-eqb}
use Rattle.subsume.specs.Bits.{bit_at}
use Rattle.subsume.proofs.bits.BitSet.test.Goals as goal

pub returns : goal.returns
unfolding bit_at
returns g c = Decides-eqb _ _
