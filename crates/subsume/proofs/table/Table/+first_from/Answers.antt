use Rattle.std.proofs.Common.{arith}
use Rattle.bounded.specs.Elems.{elems}
use Rattle.subsume.proofs.Firsts.{first_whole, passed-more, first-found}
use Rattle.subsume.proofs.table.Table.+first_from.Goals as goal
use Rattle.subsume.proofs.table.Table.+first_from.Goals.{then-may_take+in_default, else-may_take}

pub returns-then-len : goal.returns-then-len
returns-then-len g t c =
    let z = c.args.self.now in
    first_whole z.literals.nodes.now z.literals.starts.now z.targets.nodes.now z.targets.starts.now c.args.choice c.works.result (omega arith) (rw c.as_slice.ensures.value at c.works.ensures) c.then_some.result c.then_some.ensures

pub returns-in-Some : goal.returns-in-Some
returns-in-Some g t c =
    let z = c.args.self.now in
    first-found z.literals.nodes.now z.literals.starts.now z.targets.nodes.now z.targets.starts.now (elems c.args.choice) (omega arith) c.loop-j.j (elems c.take_next-next.result.1) (elems c.in-Some.first)
    c.take_next-next.ensures.choice c.loop-j.invariant c.in-Some.ensures

pub loop-j-preserved : goal.loop-j-preserved
loop-j-preserved g t c =
    let z = c.args.self.now in
    passed-more z.literals.nodes.now z.literals.starts.now z.targets.nodes.now z.targets.starts.now (elems c.args.choice) (omega arith) c.loop-j.j c.loop-j.invariant
    (elim c.if-may_take.branch [
      | then-may_take+in_default w ↦ rw (← w.take_next-next.ensures.choice) w.in_default.ensures
      | else-may_take w ↦ c.may_take.ensures w.if-may_take.false
    ])
