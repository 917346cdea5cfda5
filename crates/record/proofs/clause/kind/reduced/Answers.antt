use Rattle.bounded.specs.Elems.{elems}
use Rattle.clauses.specs.Clauses.{literals_at}
use Rattle.record.proofs.Reducing.{compact-invariant, beyond}
use Rattle.record.proofs.clause.kind.reduced.Goals as goal

pub returns-in_err-compact : goal.returns-in_err-compact
returns-in_err-compact c =
    let a = c.args.clause in
    let C = literals_at a.nodes.now a.starts.now in
    let R = literals_at a.nodes.now (elems c.in_ok-starts.starts) in
    let none = rw c.as_slice.ensures.value at c.in_err-compact.ensures in
    rw c.from_residual-in_err-compact.ensures (beyond C R c.requires.literals c.in_ok-starts.ensures.0 none)

pub invariant_of-result : goal.invariant_of-result
invariant_of-result c =
    let a = c.args.clause in
    let C = literals_at a.nodes.now a.starts.now in
    let R = literals_at a.nodes.now (elems c.in_ok-starts.starts) in
    let made = rw c.as_slice.ensures.value at c.in_ok-compact.ensures in
    let i = compact-invariant C R c.requires.literals c.in_ok-starts.ensures.0 c.in_ok-compact.compact made.1 in
    record { whole = i.whole-nodes; clause = i.clause; apart = i.apart; begun = i.begun }
