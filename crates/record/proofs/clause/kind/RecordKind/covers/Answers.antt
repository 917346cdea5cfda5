use Rattle.record.proofs.clause.kind.RecordKind.covers.Goals as goal

pub returns : goal.returns
returns c = rw (c.view.ensures.literals, c.view-2.ensures.literals) at c.covers.ensures
