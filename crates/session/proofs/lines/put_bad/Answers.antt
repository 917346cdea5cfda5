use Rattle.std.proofs.Common.{decimal, codes, arith}
use Rattle.entries.specs.Lines.{bad_line}
use Rattle.session.proofs.Lengths.{length-bad}
use Rattle.session.proofs.Writings.{wrote-next}
use Rattle.session.proofs.lines.put_bad.Goals as goal

pub put-to-requires : goal.put-to-requires
put-to-requires c = omega (arith, c.requires, length-bad c.args.question c.args.byte)

pub put_number-to-requires : goal.put_number-to-requires
put_number-to-requires c = omega (arith, c.requires, length-bad c.args.question c.args.byte, c.put-to.ensures.0, c.put-to.auto.out)

pub put-to-requires-2 : goal.put-to-requires-2
put-to-requires-2 c =
    omega (arith, c.requires, length-bad c.args.question c.args.byte, c.put-to.ensures.0, c.put-to.auto.out, c.put_number-to.ensures.0, c.put_number-to.auto.out)

pub put_number-to-requires-2 : goal.put_number-to-requires-2
put_number-to-requires-2 c =
    omega (
      arith,
      c.requires,
      length-bad c.args.question c.args.byte,
      c.put-to.ensures.0,
      c.put-to.auto.out,
      c.put_number-to.ensures.0,
      c.put_number-to.auto.out,
      c.put-to-2.ensures.0,
      c.put-to-2.auto.out,
    )

pub put-requires : goal.put-requires
put-requires c =
    omega (
      arith,
      c.requires,
      length-bad c.args.question c.args.byte,
      c.put-to.ensures.0,
      c.put-to.auto.out,
      c.put_number-to.ensures.0,
      c.put_number-to.auto.out,
      c.put-to-2.ensures.0,
      c.put-to-2.auto.out,
      c.put_number-to-2.ensures.0,
      c.put_number-to-2.auto.out,
    )

pub returns : goal.returns
unfolding bad_line
returns c =
    let to = c.put.result in
    let out = c.put.new.out in
    let byte = wrote-next (decimal c.args.byte) c.put-to-2.result c.put_number-to-2.result c.put-to-2.new.out c.put_number-to-2.new.out c.put_number-to-2.ensures (codes "\n") to out c.put.ensures in
    let at = wrote-next (codes " at ") c.put_number-to.result c.put-to-2.result c.put_number-to.new.out c.put-to-2.new.out c.put-to-2.ensures _ to out byte in
    let question = wrote-next (decimal c.args.question) c.put-to.result c.put_number-to.result c.put-to.new.out c.put_number-to.new.out c.put_number-to.ensures _ to out at in
    wrote-next (codes "bad ") c.args.at c.put-to.result c.args.out.now c.put-to.new.out c.put-to.ensures _ to out question
