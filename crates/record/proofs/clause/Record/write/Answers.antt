use Rattle.std.proofs.Common.{ℕ, List, ◌++◌, length, Ok, Err, sym, ap, ◌∙◌, subst, ap₂, arith}
use Rattle.std.proofs.lemmas.Result.{err_from_is_err_and}
use Rattle.number.specs.Forms.{form}
use Rattle.number.proofs.Formed.{length-form}
use Rattle.term.specs.declared.node.Node.{Node}
use Rattle.word.specs.Packed.{packed, Writable}
use Rattle.number.specs.Writes.{Wrote}
use Rattle.record.specs.Records.{literals}
use Rattle.clauses.proofs.Beginnings.{length-begins}
use Rattle.record.specs.Held.{nodes-of, held}
use Rattle.record.proofs.Back.{clause-writable, reads-back}
use Rattle.record.proofs.Forms.{no_room, both-wrote}
use Rattle.record.proofs.clause.Record.write.Goals as goal

pub write_nodes-requires : goal.write_nodes-requires
write_nodes-requires c =
    let r = c.args.self.now in
    let h = held r in
    subst Writable (nodes-of r ∙ sym c.as_slice.ensures.value) (clause-writable (literals r) 0 h.literals h.order (omega (arith, h.small)))

pub returns-in_err-end : goal.returns-in_err-end
returns-in_err-end c =
    let r = c.args.self.now in
    let count = c.len-count.ensures.value ∙ ap length r.begun ∙ length-begins 0 (literals r) in
    let nodes = c.as_slice.ensures.value ∙ sym (nodes-of r) in
    let same = ap₂ (λ (n : ℕ) (ns : List Node). form n ++ packed ns) count nodes in
    let start = c.form_length.ensures.table ∙ sym (length-form c.len-count.result) in
    let e = c.in_err-end.field-0.0 in
    let w = no_room c.len-count.result (packed c.as_slice.result.now) c.args.out.now c.write_nodes.new.out c.form_length.result start e c.in_err-end.ensures.wrote in
    let p = err_from_is_err_and c.from_residual.result c.from_residual.ensures.1 in
    rw p.1 (record { wrote = subst (λ (l : List ℕ). Wrote l 0 c.args.out.now (Err e) c.write_nodes.new.out) same w; back = reads-back (literals r) (held r) })

pub returns : goal.returns
returns c =
    let r = c.args.self.now in
    let count = c.len-count.ensures.value ∙ ap length r.begun ∙ length-begins 0 (literals r) in
    let nodes = c.as_slice.ensures.value ∙ sym (nodes-of r) in
    let same = ap₂ (λ (n : ℕ) (ns : List Node). form n ++ packed ns) count nodes in
    let start = c.form_length.ensures.table ∙ sym (length-form c.len-count.result) in
    let end = c.in_ok-end.end in
    let w = both-wrote c.len-count.result (packed c.as_slice.result.now) c.args.out.now c.write_nodes.new.out c.form_length.result start end c.in_ok-end.ensures.wrote c.write.result c.write.new.out c.write.ensures.wrote in
    record { wrote = subst (λ (l : List ℕ). Wrote l 0 c.args.out.now (Ok end) c.write.new.out) same w; back = reads-back (literals r) (held r) }
