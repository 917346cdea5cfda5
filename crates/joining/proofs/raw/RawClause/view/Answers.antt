use Rattle.std.proofs.Common.{◌≡◌, ◌<◌, length, ◌∙◌, sym, ap, ap₂, subst, All, arith}
use Rattle.bounded.specs.Elems.{elems}
use Rattle.clauses.specs.Clauses.{literals_at}
use Rattle.clauses.proofs.Beginnings.{inside-begins}
use Rattle.clauses.proofs.Grown.{sizes-held}
use Rattle.term.specs.Coding.{Whole, decode}
use Rattle.term.specs.Words.{sizes}
use Rattle.joining.proofs.Standing.{literals-begun}
use Rattle.joining.proofs.raw.RawClause.view.Goals as goal

pub invariant_of-result : goal.invariant_of-result
invariant_of-result c =
    let r = c.args.self.now in
    let nodes = c.as_slice.result.now in
    let e = c.as_slice.ensures.value in
    let begun = c.as_slice-2.ensures.value ∙ r.begun in
    let long : sizes (decode (elems r.nodes)) ≡ length nodes = sizes-held (elems r.nodes) r.whole ∙ sym (ap length e) in
    let all = subst (All (λ i. i < length nodes)) (sym begun) (inside-begins 0 (length nodes) (decode (elems r.nodes)) (omega arith)) in
    record { whole = subst Whole (sym e) r.whole; inside = λ i lt. all i 0 lt }

pub returns : goal.returns
returns c =
    let r = c.args.self.now in
    let e = c.as_slice.ensures.value in
    let f = c.as_slice-2.ensures.value in
    record {
      nodes = e;
      starts = f;
      literals = ap₂ literals_at e f ∙ literals-begun (elems r.nodes) r.whole (elems r.starts) r.begun;
    }
