use Rattle.std.proofs.Common.{sym, ◌∙◌}
use Rattle.record.specs.Held.{nodes-of, held}
use Rattle.record.proofs.clause.Record.nodes.Goals as goal

pub returns : goal.returns
returns c = let r = c.args.self.now in record { value = c.as_slice.ensures.value ∙ sym (nodes-of r); held = held r }
