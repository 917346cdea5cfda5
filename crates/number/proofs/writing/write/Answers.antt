use Rattle.std.proofs.Common.{◌≡◌, ◌+◌, ◌-◌, length, take, drop, refl, ◌∙◌, arith}
use Rattle.std.proofs.lemmas.List.{length-take-le, length-drop}
use Rattle.number.specs.Groups.{groups}
use Rattle.number.proofs.Formed.{length-form, one_form}
use Rattle.number.proofs.Puts.{spread-more, rest-less, written}
use Rattle.number.proofs.writing.write.Goals as goal

pub returns-then-saturating_sub-length : goal.returns-then-saturating_sub-length
returns-then-saturating_sub-length c = record {
  wrote = (omega (arith, length-form c.args.value, c.form_length-length.ensures.table), refl);
  back = tt;
  one = one_form;
}

pub loop-byte-preserved : goal.loop-byte-preserved
loop-byte-preserved c =
    let n = length (take (c.args.at + c.form_length-length.result - 1 - c.args.at) (drop c.args.at c.args.out.now)) in
    record {
      small = rest-less n c.loop-byte.byte-index c.loop-byte.rest (omega arith) c.loop-byte.invariant.small;
      put = spread-more c.loop-byte.byte-items n c.loop-byte.byte-index c.loop-byte.rest (omega arith) (omega arith) ∙ c.loop-byte.invariant.put;
    }

pub returns : goal.returns
returns c =
    let at = c.args.at in
    let before = c.args.out.now in
    let last = at + c.form_length-length.result - 1 in
    let items = c.loop-byte.byte-items in
    let some = c.form_length-length.ensures.fewest.some in
    let size : last + 1 ≡ at + groups c.args.value = omega (arith, c.form_length-length.ensures.table) in
    let n : length (take (last - at) (drop at before)) ≡ last - at = length-take-le (last - at) (drop at before) (omega (arith, length-drop at before)) in
    let same : length items ≡ length (take (last - at) (drop at before)) = c.loop-byte.auto.byte-items in
    let put = rw (← same) at c.loop-byte.invariant.put in
    let done = written before items at last c.loop-byte.byte-index c.loop-byte.rest c.args.value (omega arith) size (omega arith) (omega arith) (omega arith) put in
    record { wrote = (omega (arith, length-form c.args.value), omega arith, done.0); back = done.1; one = one_form }
