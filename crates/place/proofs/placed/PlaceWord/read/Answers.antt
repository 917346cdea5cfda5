use Rattle.std.proofs.Common.{refl}
use Rattle.std.proofs.lemmas.Result.{err_from_is_err_and}
use Rattle.bounded.specs.Elems.{elems}
use Rattle.place.proofs.Forms.{answer-fault, answer-left, answer-read}
use Rattle.place.proofs.placed.PlaceWord.read.Goals as goal

pub returns-in_err-end : goal.returns-in_err-end
returns-in_err-end c =
    let p = err_from_is_err_and c.from_residual.result c.from_residual.ensures.1 in
    let a = answer-fault c.args.input.now c.args.self.now (elems c.new-nodes.result) (elems c.read_words.new.nodes) c.new-nodes.ensures c.in_err-end.field-0.0 c.in_err-end.ensures.value in
    rw (p.1, p.2) (record { value = a.value; exact = a.exact })

pub returns-then-end-input : goal.returns-then-end-input
returns-then-end-input c =
    let a = answer-left c.args.input.now c.args.self.now (elems c.new-nodes.result) (elems c.read_words.new.nodes) c.new-nodes.ensures c.in_ok-end.end _ c.in_ok-end.ensures.value c.if-end-input.true in
    record { value = a.value; exact = a.exact }

pub returns : goal.returns
returns c =
    let a = answer-read c.args.input.now c.args.self.now (elems c.new-nodes.result) (elems c.read_words.new.nodes) c.new-nodes.ensures c.in_ok-end.end _ c.in_ok-end.ensures.value _ refl c.if-end-input.false c.in_ok-end.ensures.exact in
    record { value = a.value; exact = a.exact }
