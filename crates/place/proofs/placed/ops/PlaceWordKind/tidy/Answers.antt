use Rattle.std.proofs.Common.{refl}
use Rattle.term.proofs.Substitutions.{covers-itself}
use Rattle.place.specs.Places.{meaning}
use Rattle.place.proofs.placed.ops.PlaceWordKind.tidy.Goals as goal

pub returns : goal.returns
returns c = record { up = covers-itself (meaning c.args.self.now); down = covers-itself (meaning c.args.self.now); tidy = tt; value = refl }
