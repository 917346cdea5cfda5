use Rattle.std.proofs.Common.{refl, rules}
use Rattle.class.proofs.Lawful.{law}
use Rattle.class.proofs.classes.Class.begin.Goals as goal

pub returns : goal.returns
returns g c = record {
  begun = record { rule = search rules; count = refl };
  law = law g.K.Kind.kind g.met.K.Kind.lawful c.args.thing _ (record { rule = search rules; count = refl });
}
