use Rattle.std.proofs.Common.{length, sym, subst, ap, arith}
use Rattle.term.specs.Coding.{Whole}
use Rattle.term.specs.Coding.{codes}
use Rattle.term.proofs.Codings.{whole-all, length-codes}
use Rattle.record.specs.Reads.{Inside}
use Rattle.record.specs.Records.{literals}
use Rattle.clauses.proofs.Beginnings.{inside-begins}
use Rattle.term.specs.Matched.{Below}
use Rattle.record.specs.Held.{held}
use Rattle.record.proofs.Views.{literals-seen, clause-below}
use Rattle.record.proofs.clause.Record.view.Goals as goal

pub invariant_of-result : goal.invariant_of-result
invariant_of-result c =
    let ls = literals c.args.self.now in
    let nodes = c.nodes.result.now in
    let same = c.nodes.ensures.value in
    let inside = subst (Inside (length nodes)) (sym c.starts.ensures) (inside-begins 0 (length nodes) ls (omega (arith, ap length same, length-codes ls))) in
    record { whole = subst Whole (sym same) (whole-all ls); inside = λ i h. inside i 0 h }

pub returns-clause-literals : goal.returns-clause-literals
returns-clause-literals c = literals-seen (literals c.args.self.now) c.nodes.result.now c.starts.result.now c.nodes.ensures.value c.starts.ensures

pub returns-clause-variables : goal.returns-clause-variables
returns-clause-variables c =
    let r = c.args.self.now in
    let ls = literals r in
    subst (λ nodes. Below (length nodes) nodes) (sym c.nodes.ensures.value) (clause-below ls (held r) (length (codes ls)) (omega (arith, length-codes ls)))

pub returns-clause-few : goal.returns-clause-few
returns-clause-few c =
    let r = c.args.self.now in
    let small = (held r).small in
    subst (Below 256) (sym c.nodes.ensures.value) (clause-below (literals r) (held r) 256 (omega arith))

pub returns-clause-small : goal.returns-clause-small
returns-clause-small c =
    let r = c.args.self.now in
    let small = (held r).small in
    omega (arith, ap length c.nodes.ensures.value, length-codes (literals r))
