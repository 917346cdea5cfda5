use Rattle.std.proofs.Common.{arith}
use Rattle.record.specs.Held.{held}
use Rattle.record.specs.Records.{literals}
use Rattle.record.proofs.Views.{few-variables}
use Rattle.cehmoli.proofs.calls.cehmoli_witness.Goals as goal

pub returns-in-Err-witness-clause-enough : goal.returns-in-Err-witness-clause-enough
returns-in-Err-witness-clause-enough c = λ h e.
    absurd (omega (arith, h, c.in-Err-witness.ensures.witnessed.0, few-variables (literals c.read.new.self.first) (held c.read.new.self.first)))
