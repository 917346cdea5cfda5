use Rattle.std.proofs.Common.{◌<◌, ℕ, List, ◌++◌, ◌∷◌, [], length, sym, ap, ap₂, ◌∙◌, subst, arith}
use Rattle.std.proofs.lemmas.Bool.{both_ways}
use Rattle.bounded.specs.Elems.{elems}
use Rattle.bounded.proofs.Rooms.{pushed_room}
use Rattle.clauses.specs.Beginnings.{begins}
use Rattle.clauses.proofs.Beginnings.{length-begins}
use Rattle.clauses.proofs.Each.{length-each}
use Rattle.clauses.proofs.Grown.{whole-grown, begins-grown}
use Rattle.term.specs.Coding.{Whole, decode}
use Rattle.term.specs.declared.node.Node.{Node}
use Rattle.joining.proofs.Fitting.{added-one, added-none}
use Rattle.joining.proofs.raw.RawClause.add.Goals as goal

pub invariant_of-self : goal.invariant_of-self
invariant_of-self c =
    let r = c.args.self.now in
    let old = elems r.nodes in
    let e = c.join_word.ensures.nodes in
    let few : length (elems r.starts) < 256 = omega (arith, ap length r.begun, length-begins 0 (decode old), length-each (decode old), c.requires.few) in
    let pushed = pushed_room 256 c.len-start.result (elems r.starts) c.push.result (elems c.push.new.self) c.push.ensures few in
    record {
      whole = subst Whole (sym e) (whole-grown old r.whole _);
      begun =
          pushed
          ∙ ap₂ (λ (l : List ℕ) (n : ℕ). l ++ n ∷ []) r.begun c.len-start.ensures.value
          ∙ sym (ap (λ (nodes : List Node). begins 0 (decode nodes)) e ∙ begins-grown old r.whole _);
    }

pub returns-then-fellows : goal.returns-then-fellows
returns-then-fellows c =
    added-one c.args.a c.args.b c.args.self.now _ (elems c.args.pairs.now) (elems c.join_word.new.pairs)
    (c.fellows.ensures.0 c.if-fellows.true) c.join_word.result.0 c.join_word.result.1 c.join_word.ensures

pub returns-else-fellows : goal.returns-else-fellows
returns-else-fellows c =
    added-none c.args.a c.args.b c.args.self.now (elems c.args.pairs.now)
    (λ h. both_ways _ c.if-fellows.false (c.fellows.ensures.1 h)) c.requires.known
