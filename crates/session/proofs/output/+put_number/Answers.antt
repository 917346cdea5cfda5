use Rattle.std.proofs.Common.{◌≡◌, ℕ, ◌+◌, ◌/◌, ◌%◌, List, [], ◌∷◌, length, decimal, Ok, sym, ap, ◌∙◌, subst, arith, length-append}
use Rattle.std.proofs.lemmas.Fmt.{decimal_digit, decimal_step}
use Rattle.number.specs.Writes.{Wrote}
use Rattle.session.proofs.Writings.{length-wrote, wrote-next}
use Rattle.session.proofs.output.+put_number.Goals as goal

pub put-requires : goal.put-requires
put-requires t c = omega (arith, c.requires, ap length (decimal_digit c.args.number (omega arith)))

pub returns-then-number-lt10 : goal.returns-then-number-lt10
returns-then-number-lt10 t c =
    let n = c.args.number in
    let digit : (48 + n % 10) ∷ [] ≡ decimal n = ap (λ (d : ℕ). d ∷ []) (omega arith) ∙ sym (decimal_digit n (omega arith)) in
    subst (λ (l : List ℕ). Wrote l c.args.at c.args.out.now (Ok c.put.result) c.put.new.out) digit c.put.ensures

pub put_number-to-requires : goal.put_number-to-requires
put_number-to-requires t c =
    let n = c.args.number in
    let step = ap length (decimal_step n (omega arith) (omega (arith, c.ranges.number.fits))) in
    (omega (arith, c.decreases), omega (arith, c.requires, step, length-append (decimal (n / 10)) ((48 + n % 10) ∷ [])))

pub put-requires-2 : goal.put-requires-2
put-requires-2 t c =
    let n = c.args.number in
    let step = ap length (decimal_step n (omega arith) (omega (arith, c.ranges.number.fits))) in
    let w = c.put_number-to.ensures in
    omega (arith, c.requires, step, length-append (decimal (n / 10)) ((48 + n % 10) ∷ []), w.0, length-wrote (decimal (n / 10)) c.args.at c.put_number-to.result c.args.out.now c.put_number-to.new.out w)

pub returns : goal.returns
returns t c =
    let n = c.args.number in
    let all = wrote-next (decimal (n / 10)) c.args.at c.put_number-to.result c.args.out.now c.put_number-to.new.out c.put_number-to.ensures _ c.put-2.result c.put-2.new.out c.put-2.ensures in
    subst (λ (l : List ℕ). Wrote l c.args.at c.args.out.now (Ok c.put-2.result) c.put-2.new.out) (sym (decimal_step n (omega arith) (omega (arith, c.ranges.number.fits)))) all
