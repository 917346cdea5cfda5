use Rattle.std.proofs.Common.{sym, ap, ◌∙◌, arith}
use Rattle.std.specs.Option.{is_some}
use Rattle.bounded.specs.Elems.{elems}
use Rattle.reduction.proofs.Turns.{reached-more, reached-beyond, reached-all}
use Rattle.reduction.proofs.renumber.renumbered_clause.Goals as goal

pub returns-in_err-ok : goal.returns-in_err-ok
returns-in_err-ok c =
    let e = c.literal.ensures in
    rw c.from_residual.ensures
    (reached-beyond c.args.clause c.loop-i.i c.loop-i.compact (elems c.loop-i.seen) (omega arith) c.loop-i.invariant c.add.result c.add.new.self (elems c.add.new.seen)
    (sym c.ok.ensures.variant ∙ ap is_some c.in_err-ok.was) (rw (e.nodes, e.start) at c.add.ensures))

pub loop-i-preserved : goal.loop-i-preserved
loop-i-preserved c =
    let e = c.literal.ensures in
    reached-more c.args.clause c.loop-i.i c.loop-i.compact (elems c.loop-i.seen) (omega arith) c.loop-i.invariant c.add.result c.add.new.self (elems c.add.new.seen)
    (sym c.in_ok-ok.ensures.variant) (rw (e.nodes, e.start) at c.add.ensures)

pub returns : goal.returns
returns c = reached-all c.args.clause c.loop-i.i c.loop-i.compact (elems c.loop-i.seen) (omega arith) c.loop-i.invariant
