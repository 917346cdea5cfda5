use Rattle.std.proofs.Common.{arith}
use Rattle.record.specs.Held.{held}
use Rattle.record.specs.Records.{literals}
use Rattle.record.proofs.Views.{few-variables}
use Rattle.listing.proofs.coverings.tell.Goals as goal

pub returns-in-Err : goal.returns-in-Err
returns-in-Err c =
    let rule = c.args.rule.now in
    let short = c.in-Err.ensures.witnessed.0 in
    absurd (omega (arith, short, few-variables (literals rule) (held rule)))
