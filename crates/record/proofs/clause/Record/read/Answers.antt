use Rattle.std.proofs.Common.{sym, ◌∙◌, arith}
use Rattle.std.proofs.lemmas.Result.{err_from_is_err_and}
use Rattle.record.proofs.Forms.{answer-number, answer-many, answer-refused, answer-left, answer-read}
use Rattle.record.proofs.clause.Record.read.Goals as goal

pub returns-in_err-count : goal.returns-in_err-count
returns-in_err-count c =
    let p = err_from_is_err_and c.from_residual.result c.from_residual.ensures.1 in
    let a = answer-number c.args.input.now (λ i. (c.type_inv.input i).fits) c.args.self.now c.in_err-count.field-0.0 (sym c.read.ensures.value ∙ c.in_err-count.was) in
    rw (p.1, p.2) (record { value = a.value; exact = a.exact })

pub returns-then-count-gt-LITERALS : goal.returns-then-count-gt-LITERALS
returns-then-count-gt-LITERALS c =
    let a = answer-many c.args.input.now (λ i. (c.type_inv.input i).fits) c.args.self.now c.in_ok-count.count c.in_ok-count.next (sym c.read.ensures.value ∙ c.in_ok-count.was) (omega arith) in
    record { value = a.value; exact = a.exact }

pub returns-in_err-end : goal.returns-in_err-end
returns-in_err-end c =
    let p = err_from_is_err_and c.from_residual-in_err-end.result c.from_residual-in_err-end.ensures.1 in
    let a = answer-refused c.args.input.now (λ i. (c.type_inv.input i).fits) c.args.self.now c.in_ok-count.count c.in_ok-count.next (sym c.read.ensures.value ∙ c.in_ok-count.was) c.in_err-end.field-0.0 c.read_literals.new.out (omega arith) c.in_err-end.ensures in
    rw (p.1, p.2) (record { value = a.value; exact = a.exact })

pub returns-then-end-input : goal.returns-then-end-input
returns-then-end-input c =
    let a = answer-left c.args.input.now (λ i. (c.type_inv.input i).fits) c.args.self.now c.in_ok-count.count c.in_ok-count.next (sym c.read.ensures.value ∙ c.in_ok-count.was) c.read_literals.new.out c.in_ok-end.end (omega arith) c.in_ok-end.ensures c.if-end-input.true in
    record { value = a.value; exact = a.exact }

pub returns : goal.returns
returns c =
    let a = answer-read c.args.input.now (λ i. (c.type_inv.input i).fits) c.args.self.now c.in_ok-count.count c.in_ok-count.next (sym c.read.ensures.value ∙ c.in_ok-count.was) c.read_literals.new.out c.in_ok-end.end (omega arith) c.in_ok-end.ensures c.if-end-input.false in
    record { value = a.value; exact = a.exact }
