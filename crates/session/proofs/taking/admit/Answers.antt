use Rattle.std.proofs.Common.{Ok, Err}
use Rattle.session.proofs.Takings.{admits}
use Rattle.session.proofs.taking.admit.Goals as goal

pub returns-in-Ok : goal.returns-in-Ok
returns-in-Ok c = admits c.args.class.now c.args.record.now (Ok tt) c.admit.new.self c.in-Ok.ensures

pub returns-in-Err : goal.returns-in-Err
returns-in-Err c = admits c.args.class.now c.args.record.now (Err c.in-Err.refusal) c.admit.new.self c.in-Err.ensures
