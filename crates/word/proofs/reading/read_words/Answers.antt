use Rattle.std.proofs.Common.{◌≡◌, ℕ, ◌-◌, length, take, sym, refl, ap, ◌∙◌}
use Rattle.bounded.specs.Elems.{elems}
use Rattle.word.specs.Reads.{read_words}
use Rattle.word.proofs.Exact.{gives-exactly, gives_back, gives-on}
use Rattle.word.proofs.reading.read_words.Goals as goal

pub returns-then-is_err : goal.returns-then-is_err
returns-then-is_err g c =
    let input = c.args.input.now in
    let before = elems c.args.nodes.now in
    let room = g.row.N - length before in
    let held = elems c.read_each-answer.new.nodes in
    let answer = c.read_each-answer.result in
    let after = elems c.truncate.new.self in
    let read = read_words c.args.count room c.args.seen input c.args.at before in
    let kept : after ≡ before = c.truncate.ensures ∙ ap (λ (n : ℕ). take n held) c.len-before.ensures.value ∙ c.read_each-answer.ensures.kept in
    let value = gives_back read before answer held after (sym c.if-is_err.ensures.value) c.read_each-answer.ensures.value kept in
    record {
      value = value;
      exact = gives-exactly c.args.count room c.args.seen input c.args.at before (λ i. (c.type_inv.input i).fits) read refl before answer after value;
    }

pub returns-else-is_err : goal.returns-else-is_err
returns-else-is_err g c =
    let input = c.args.input.now in
    let before = elems c.args.nodes.now in
    let room = g.row.N - length before in
    let held = elems c.read_each-answer.new.nodes in
    let answer = c.read_each-answer.result in
    let read = read_words c.args.count room c.args.seen input c.args.at before in
    let value = gives-on read before answer held (sym c.if-is_err.ensures.value) c.read_each-answer.ensures.value in
    record {
      value = value;
      exact = gives-exactly c.args.count room c.args.seen input c.args.at before (λ i. (c.type_inv.input i).fits) read refl before answer held value;
    }
