use Rattle.std.proofs.Common.{◌≡◌, ℕ, true, false, get_or, set, sym, ap, ◌∙◌, subst, arith}
use Rattle.std.proofs.lemmas.Result.{err_from_is_err_and}
use Rattle.bounded.specs.Elems.{elems}
use Rattle.term.specs.Coding.{decode}
use Rattle.term.specs.Words.{Words}
use Rattle.record.specs.Clauses.{stands}
use Rattle.record.specs.Marks.{mark_of, Marked}
use Rattle.record.specs.Reads.{read_literal}
use Rattle.record.proofs.Grown.{start-refused, literal-refused, literal-finished, grown-whole, grown-inside, grown-stands, grows-new, grows-again, decode-grown}
use Rattle.record.proofs.Marks.{unmarked, marked-push}
use Rattle.record.proofs.literal.add_literal.Goals.{else-marks-mark-via-then-marks-mark+else-stands_among, else-marks-mark-via-else-marks-mark}
use Rattle.record.proofs.literal.add_literal.Goals as goal

pub returns-in_err-head : goal.returns-in_err-head
returns-in_err-head c =
    let p = err_from_is_err_and c.from_residual.result c.from_residual.ensures.1 in
    rw (p.1, p.2)
    record { value = start-refused (elems c.args.nodes.now) c.requires.whole c.args.input.now c.args.at c.len-start.result c.len-start.ensures.value c.read_head.result c.read_head.ensures c.in_err-head.field-0.0 c.in_err-head.was; marked = tt }

pub returns-in_err-next : goal.returns-in_err-next
returns-in_err-next c =
    let p = err_from_is_err_and c.from_residual-in_err-next.result c.from_residual-in_err-next.ensures.1 in
    rw (p.1, p.2)
    record {
      value = literal-refused (elems c.args.nodes.now) c.requires.whole c.args.input.now c.args.at (λ i. (c.type_inv.input i).fits) c.len-start.result c.len-start.ensures.value c.read_head.result c.read_head.ensures
          c.in_ok-head.head c.in_ok-head.was c.push.result (elems c.push.new.self) c.push.ensures c.args.seen c.requires.counted (elems c.read_words.new.nodes) c.in_err-next.field-0.0 c.in_err-next.ensures.value;
      marked = tt;
    }

pub invariant_of-word : goal.invariant_of-word
invariant_of-word c =
    let old = elems c.args.nodes.now in
    let after = elems c.read_words.new.nodes in
    let f = literal-finished old c.requires.whole c.args.input.now c.args.at (λ i. (c.type_inv.input i).fits) c.len-start.result c.len-start.ensures.value c.read_head.result c.read_head.ensures
    c.in_ok-head.head c.in_ok-head.was c.push.result (elems c.push.new.self) c.push.ensures c.args.seen c.requires.counted after c.in_ok-next.next c.in_ok-next.seen c.in_ok-next.ensures.value in
    let nodes = c.as_slice.ensures.value ∙ f.nodes in
    let whole = grown-whole old c.requires.whole f.literal c.as_slice.result.now nodes c.args.starts.now c.requires.begun c.len-start.result c.len-start.ensures.value in
    record { whole = whole.0; inside = whole.1 }

pub slice_bounds-mark_of-count : goal.slice_bounds-mark_of-count
slice_bounds-mark_of-count c =
    let old = elems c.args.nodes.now in
    let after = elems c.read_words.new.nodes in
    let f = literal-finished old c.requires.whole c.args.input.now c.args.at (λ i. (c.type_inv.input i).fits) c.len-start.result c.len-start.ensures.value c.read_head.result c.read_head.ensures
    c.in_ok-head.head c.in_ok-head.was c.push.result (elems c.push.new.self) c.push.ensures c.args.seen c.requires.counted after c.in_ok-next.next c.in_ok-next.seen c.in_ok-next.ensures.value in
    f.forward

pub slice_bounds-mark_of-start : goal.slice_bounds-mark_of-start
slice_bounds-mark_of-start c =
    let old = elems c.args.nodes.now in
    let after = elems c.read_words.new.nodes in
    let f = literal-finished old c.requires.whole c.args.input.now c.args.at (λ i. (c.type_inv.input i).fits) c.len-start.result c.len-start.ensures.value c.read_head.result c.read_head.ensures
    c.in_ok-head.head c.in_ok-head.was c.push.result (elems c.push.new.self) c.push.ensures c.args.seen c.requires.counted after c.in_ok-next.next c.in_ok-next.seen c.in_ok-next.ensures.value in
    f.forward

pub slice_bounds-mark_of-end : goal.slice_bounds-mark_of-end
slice_bounds-mark_of-end c =
    let old = elems c.args.nodes.now in
    let after = elems c.read_words.new.nodes in
    let f = literal-finished old c.requires.whole c.args.input.now c.args.at (λ i. (c.type_inv.input i).fits) c.len-start.result c.len-start.ensures.value c.read_head.result c.read_head.ensures
    c.in_ok-head.head c.in_ok-head.was c.push.result (elems c.push.new.self) c.push.ensures c.args.seen c.requires.counted after c.in_ok-next.next c.in_ok-next.seen c.in_ok-next.ensures.value in
    f.inside

pub stands_among-requires : goal.stands_among-requires
stands_among-requires c =
    let old = elems c.args.nodes.now in
    let after = elems c.read_words.new.nodes in
    let f = literal-finished old c.requires.whole c.args.input.now c.args.at (λ i. (c.type_inv.input i).fits) c.len-start.result c.len-start.ensures.value c.read_head.result c.read_head.ensures
    c.in_ok-head.head c.in_ok-head.was c.push.result (elems c.push.new.self) c.push.ensures c.args.seen c.requires.counted after c.in_ok-next.next c.in_ok-next.seen c.in_ok-next.ensures.value in
    let nodes = c.as_slice.ensures.value ∙ f.nodes in
    grown-inside old c.requires.whole f.literal c.as_slice.result.now nodes c.args.starts.now c.requires.begun c.len-start.result c.len-start.ensures.value

pub returns-then-stands_among : goal.returns-then-stands_among
returns-then-stands_among c =
    let old = elems c.args.nodes.now in
    let after = elems c.read_words.new.nodes in
    let f = literal-finished old c.requires.whole c.args.input.now c.args.at (λ i. (c.type_inv.input i).fits) c.len-start.result c.len-start.ensures.value c.read_head.result c.read_head.ensures
    c.in_ok-head.head c.in_ok-head.was c.push.result (elems c.push.new.self) c.push.ensures c.args.seen c.requires.counted after c.in_ok-next.next c.in_ok-next.seen c.in_ok-next.ensures.value in
    let stood = grown-stands old c.requires.whole f.literal c.as_slice.result.now (c.as_slice.ensures.value ∙ f.nodes) c.args.starts.now c.requires.begun c.len-start.result c.len-start.ensures.value c.stands_among.result c.stands_among.ensures in
    record { value = grows-again (read_literal (decode old) c.args.input.now c.args.at) old after (decode old) c.args.at c.in_ok-next.next f.literal f.asked (stood ∙ c.if-stands_among.true) f.nodes; marked = tt }

pub returns : goal.returns
returns c =
    let old = elems c.args.nodes.now in
    let after = elems c.read_words.new.nodes in
    let f = literal-finished old c.requires.whole c.args.input.now c.args.at (λ i. (c.type_inv.input i).fits) c.len-start.result c.len-start.ensures.value c.read_head.result c.read_head.ensures
    c.in_ok-head.head c.in_ok-head.was c.push.result (elems c.push.new.self) c.push.ensures c.args.seen c.requires.counted after c.in_ok-next.next c.in_ok-next.seen c.in_ok-next.ensures.value in
    let nodes = c.as_slice.ensures.value ∙ f.nodes in
    let mark = c.mark_of-mark.ensures.value ∙ ap mark_of f.bytes in
    let fresh : stands f.literal (decode old) ≡ false = elim c.else-marks-mark.branch [
      | else-marks-mark-via-then-marks-mark+else-stands_among w ↦ grown-stands old c.requires.whole f.literal c.as_slice.result.now nodes c.args.starts.now c.requires.begun c.len-start.result c.len-start.ensures.value w.stands_among.result w.stands_among.ensures ∙ w.if-stands_among.false
      | else-marks-mark-via-else-marks-mark w ↦ unmarked (decode old) f.literal c.args.marks.now c.requires.marked (ap (λ (n : ℕ). get_or c.args.marks.now n false) (sym mark) ∙ w.if-marks-mark.false)
    ] in
    record {
      value = grows-new (read_literal (decode old) c.args.input.now c.args.at) old after (decode old) c.args.at c.in_ok-next.next c.in_ok-next.seen f.literal f.asked fresh f.nodes f.counts;
      marked =
          subst (λ (us : Words). Marked us (set c.args.marks.now c.mark_of-mark.result true)) (sym (ap decode f.nodes ∙ decode-grown old c.requires.whole f.literal))
          (marked-push (decode old) f.literal c.args.marks.now c.mark_of-mark.result mark (omega arith) c.requires.marked);
    }
