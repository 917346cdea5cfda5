use Rattle.std.proofs.Common.{sym, ◌∙◌}
use Rattle.place.specs.Held.{held}
use Rattle.place.proofs.placed.PlaceWord.nodes.Goals as goal

pub returns : goal.returns
returns c = c.as_slice.ensures.value ∙ sym (held c.args.self.now).nodes-of
