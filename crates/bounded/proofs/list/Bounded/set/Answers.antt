use Rattle.std.proofs.Common.{rules}
use lib.Seq.{take-set-lt}
use Rattle.std.proofs.lemmas.List.{places}
use Rattle.bounded.proofs.list.Bounded.set.Goals as goal

pub returns : goal.returns
returns g c = record { value = search (rules, places); after = search (rules, take-set-lt) }
