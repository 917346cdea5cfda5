use Rattle.std.proofs.Common.{None, length, sym, ◌∙◌, arith}
use Rattle.std.proofs.lemmas.List.{get_or_default}
use Rattle.subsume.proofs.Columns.{columned-at}
use Rattle.subsume.proofs.table.Table.column.Goals as goal

pub returns-then-r-self : goal.returns-then-r-self
returns-then-r-self g c =
    let t = c.args.self.now in
    let r = c.args.slot.now.front in
    columned-at t.fronts.now (length t.targets.starts.now) t.columns.now r t.columned c.requires _ (get_or_default t.columns.now r None c.index-self-r.result (omega arith) ∙ sym c.as_ref.ensures.value)
