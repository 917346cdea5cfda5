use Rattle.std.proofs.Common.{arith}
use Rattle.bounded.specs.Elems.{elems}
use Rattle.record.specs.Records.{literals}
use Rattle.record.specs.Held.{held}
use Rattle.witness.proofs.Inside.{All-inside}
use Rattle.witness.proofs.Noted.{witness-noted, witness-beyond}
use Rattle.witness.proofs.witnesses.witness.Goals as goal

pub returns-clause-witnessed : goal.returns-clause-witnessed
returns-clause-witnessed c =
    let rule = literals c.args.rule.now in
    let mount = literals c.args.mount.now in
    let choice = elems c.in-Some.choice in
    let before = c.args.list.now in
    let after = c.note_all.new.list in
    let n = c.count_variables-count.result in
    let order = (held c.args.rule.now).order in
    let all = c.count_variables-count.ensures in
    let made = rw c.as_slice.ensures.value at c.note_all.ensures in (
      all,
      witness-noted rule mount choice before after n order all c.in-Some.ensures made (omega arith) (omega arith),
      witness-beyond rule mount choice before after n order all c.in-Some.ensures made,
      c.note_all.auto.list,
    )

pub returns-clause-inside : goal.returns-clause-inside
returns-clause-inside c = All-inside (literals c.args.rule.now) (literals c.args.mount.now) _ (returns-clause-witnessed c).1
