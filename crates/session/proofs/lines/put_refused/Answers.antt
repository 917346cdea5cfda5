use Rattle.std.proofs.Common.{decimal, codes, arith}
use Rattle.session.specs.Lines.{refused_line}
use Rattle.session.proofs.Lengths.{length-refused}
use Rattle.session.proofs.Writings.{wrote-next}
use Rattle.session.proofs.lines.put_refused.Goals as goal

pub put-to-requires : goal.put-to-requires
put-to-requires c = omega (arith, c.requires, length-refused c.args.number)

pub put_number-to-requires : goal.put_number-to-requires
put_number-to-requires c = omega (arith, c.requires, length-refused c.args.number, c.put-to.ensures.0, c.put-to.auto.out)

pub put-requires : goal.put-requires
put-requires c =
    omega (arith, c.requires, length-refused c.args.number, c.put-to.ensures.0, c.put-to.auto.out, c.put_number-to.ensures.0, c.put_number-to.auto.out)

pub returns : goal.returns
unfolding refused_line
returns c =
    wrote-next (codes "refused ") c.args.at c.put-to.result c.args.out.now c.put-to.new.out c.put-to.ensures _ c.put.result c.put.new.out
    (wrote-next (decimal c.args.number) c.put-to.result c.put_number-to.result c.put-to.new.out c.put_number-to.new.out c.put_number-to.ensures (codes "\n") c.put.result c.put.new.out c.put.ensures)
