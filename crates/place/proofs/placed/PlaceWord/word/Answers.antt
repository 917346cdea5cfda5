use Rattle.std.proofs.Common.{length, sym, ap, subst, arith}
use Rattle.term.specs.Coding.{Whole}
use Rattle.place.specs.Held.{held}
use Rattle.place.proofs.placed.PlaceWord.word.Goals as goal

pub invariant_of-result : goal.invariant_of-result
invariant_of-result c =
    let e = c.as_slice.ensures.value in
    let h = held c.args.self.now in
    record { whole = subst Whole (sym e) h.whole; inside = omega (arith, ap length e, h.some) }
