use Rattle.std.proofs.Common.{Ok, Err, refl, ap, ◌∙◌, arith}
use Rattle.record.proofs.Lengths.{form-within}
use Rattle.cehmoli.specs.Answers.{refused}
use Rattle.cehmoli.proofs.calls.put_join.Goals as goal

pub returns-in-Err-clause-answers : goal.returns-in-Err-clause-answers
returns-in-Err-clause-answers c =
    (c.args.first, c.args.second.now, c.join.new.self, Err c.in-Err.refusal, refl, refl, c.in-Err.ensures.joined, (c.refused.ensures, refl))

pub returns-in-Ok-clause-answers : goal.returns-in-Ok-clause-answers
returns-in-Ok-clause-answers c =
    (c.args.first, c.args.second.now, c.join.new.self, Ok c.in_default.field-0, refl, refl, c.in_default.ensures.joined, (Ok c.in-Ok.length, c.in-Ok.ensures.wrote, c.answered.ensures))

pub returns-in-Err-write-clause-answers : goal.returns-in-Err-write-clause-answers
returns-in-Err-write-clause-answers c =
    (c.args.first, c.args.second.now, c.join.new.self, Ok c.in_default.field-0, refl, refl, c.in_default.ensures.joined, (Err c.in-Err-write.refusal, c.in-Err-write.ensures.wrote, c.refused-in-Err-write.ensures ∙ ap refused c.question.ensures))

pub returns-in-Err-write-clause-enough : goal.returns-in-Err-write-clause-enough
returns-in-Err-write-clause-enough c = λ h e. absurd (omega (arith, h, c.in-Err-write.ensures.wrote.0, form-within c.join.new.self))
