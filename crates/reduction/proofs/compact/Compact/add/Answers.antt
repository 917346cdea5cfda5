use Rattle.std.proofs.Common.{List, ℕ, ◌++◌, ◌∷◌, [], refl, sym, ap, ap₂, ◌∙◌, subst, arith}
use Rattle.std.proofs.lemmas.Result.{err_from_is_err_and}
use Rattle.bounded.specs.Elems.{elems}
use Rattle.clauses.specs.Beginnings.{begins}
use Rattle.clauses.proofs.Grown.{whole-grown, begins-grown}
use Rattle.term.specs.Coding.{Whole, decode}
use Rattle.term.specs.declared.node.Node.{Node}
use Rattle.reduction.proofs.Adding.{numbered-is, beyond-nodes, beyond-starts, added}
use Rattle.reduction.proofs.compact.Compact.add.Goals as goal

pub returns-then-end-literal : goal.returns-then-end-literal
returns-then-end-literal c =
    beyond-nodes c.args.self.now c.args.literal c.end-end.result c.end-end.ensures (elems c.args.seen.now) (omega arith)

pub returns-in_err-push : goal.returns-in_err-push
returns-in_err-push c =
    let p = err_from_is_err_and c.from_residual.result c.from_residual.ensures.1 in
    rw p.1 (beyond-starts c.args.self.now c.args.literal c.end-end.result c.end-end.ensures (elems c.args.seen.now) _ refl c.in_err-push.ensures.0)

pub invariant_of-self-2 : goal.invariant_of-self-2
invariant_of-self-2 c =
    let r = c.args.self.now in
    let old = elems r.nodes in
    let e = c.add_nodes.ensures.nodes
    ∙ ap (λ (nodes : List Node). old ++ nodes) (numbered-is r c.args.literal c.end-end.result c.end-end.ensures (elems c.add_nodes.new.seen)) in
    record {
      whole = subst Whole (sym e) (whole-grown old r.whole _);
      begun =
          c.in_ok-push.ensures.1
          ∙ ap₂ (λ (l : List ℕ) (n : ℕ). l ++ n ∷ []) r.begun c.len-start.ensures.value
          ∙ sym (ap (λ (nodes : List Node). begins 0 (decode nodes)) e ∙ begins-grown old r.whole _);
    }

pub returns : goal.returns
returns c =
    added c.args.self.now c.args.literal c.end-end.result c.end-end.ensures (elems c.args.seen.now) (elems c.add_nodes.new.seen) _
    c.add_nodes.ensures.nodes c.add_nodes.ensures.seen c.add_nodes.ensures.few
