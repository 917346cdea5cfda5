use Rattle.std.proofs.Common.{refl, arith}
use Rattle.number.specs.Groups.{groups}
use Rattle.number.proofs.Counts.{table-ruled, groups-fewest}
use Rattle.number.proofs.length.form_length.Goals as goal

pub returns : goal.returns
unfolding groups
returns c = record { table = refl; rule = table-ruled; fewest = groups-fewest c.args.value (omega arith) }
