use Rattle.std.proofs.Common.{sym, ◌∙◌}
use Rattle.std.proofs.lemmas.Result.{IfOk-weaker}
use Rattle.gathering.proofs.Takes.{admits, never-refused, line-more}
use Rattle.gathering.proofs.taking.admit.Goals as goal

pub returns-in-Ok : goal.returns-in-Ok
returns-in-Ok c =
    IfOk-weaker c.format.result _ _
    (λ s e ms g. (admits ms c.args.class.now c.args.place.now c.admit.new.self g c.in-Ok.ensures, e ∙ sym (line-more ms c.args.class.now g)))
    c.format.ensures.ok

pub returns-in-Err : goal.returns-in-Err
returns-in-Err c = absurd (never-refused c.args.class.now c.args.place.now c.in-Err.refusal c.admit.new.self c.in-Err.ensures)
