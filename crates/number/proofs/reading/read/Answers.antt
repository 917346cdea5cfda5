use Rattle.std.proofs.Common.{◌≡◌, ◌∙◌, arith}
use Rattle.number.specs.Reads.{read_number}
use Rattle.number.proofs.Exact.{exactly, again, read_none, read-rest}
use Rattle.number.proofs.reading.read.Goals as goal

pub returns-then-at-end : goal.returns-then-at-end
returns-then-at-end c =
    let value = read_none c.args.input.now c.args.at (omega arith) in
    record { value = value; exact = exactly c.args.input.now c.args.at (λ i. (c.type_inv.input i).fits) _ value; again = tt }

pub returns : goal.returns
returns c =
    let input = c.args.input.now in
    let answer = c.read_first.result in
    let value : answer ≡ read_number input c.args.at = c.read_first.ensures ∙ read-rest input c.args.at in
    let exact = exactly input c.args.at (λ i. (c.type_inv.input i).fits) answer value in
    record { value = value; exact = exact; again = again input c.args.at answer exact }
