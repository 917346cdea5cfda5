use Rattle.std.proofs.Common.{arith}
use Rattle.record.proofs.Lengths.{form-within}
use Rattle.session.proofs.taking.put_form.Goals as goal

pub returns-in-Err : goal.returns-in-Err
returns-in-Err c = absurd (omega (arith, c.in-Err.ensures.wrote.0, form-within c.args.record.now))
