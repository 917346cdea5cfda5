use Rattle.std.proofs.Common.{ℕ, ◌*◌, List, length, codes, Ok, Option, sym, ap, ◌∙◌, subst, arith}
use Rattle.class.specs.declared.classes.Class.{Class}
use Rattle.listing.specs.Reduced.{hex}
use Rattle.number.specs.Writes.{Wrote}
use Rattle.record.specs.Reads.{clause_form}
use Rattle.record.specs.Records.{literals}
use Rattle.record.specs.declared.clause.Record.{Record}
use Rattle.session.specs.Lines.{rule_line}
use Rattle.session.proofs.Lengths.{length-hex, length-rule, length-no-rule}
use Rattle.session.proofs.Writings.{wrote-next}
use Rattle.session.proofs.taking.Gatherer.put_rule.Goals as goal

pub put-requires : goal.put-requires
put-requires c = omega (arith, c.requires, length-no-rule c.args.self.class c.in-None.is)

pub put-to-requires : goal.put-to-requires
put-to-requires c = omega (arith, c.requires, length-rule c.args.self.class c.in-Some.class c.in-Some.is)

pub put_form-to-requires : goal.put_form-to-requires
put_form-to-requires c =
    let same = ap (λ (x : Record). 2 * length (clause_form (literals x))) (c.rule.ensures ∙ c.issue-issued.ensures.rule) in
    omega (arith, c.requires, length-rule c.args.self.class c.in-Some.class c.in-Some.is, c.put-to.ensures.0, c.put-to.auto.out, same)

pub put-requires-in-Some : goal.put-requires-in-Some
put-requires-in-Some c =
    let same = ap (λ (x : Record). 2 * length (clause_form (literals x))) (c.rule.ensures ∙ c.issue-issued.ensures.rule) in
    let long = length-hex (clause_form (literals c.rule.result.now)) in
    omega (
      arith,
      c.requires,
      length-rule c.args.self.class c.in-Some.class c.in-Some.is,
      c.put-to.ensures.0,
      c.put-to.auto.out,
      same,
      long,
      c.put_form-to.ensures.0,
      c.put_form-to.auto.out,
    )

pub returns-in-None : goal.returns-in-None
unfolding rule_line
returns-in-None c =
    subst (λ (o : Option (Class Record)). Wrote (rule_line o) c.args.at c.args.out.now (Ok c.put.result) c.put.new.out) (sym c.in-None.is) c.put.ensures

pub returns-in-Some : goal.returns-in-Some
unfolding rule_line
returns-in-Some c =
    let to = c.put-in-Some.result in
    let out = c.put-in-Some.new.out in
    let same = ap (λ (x : Record). hex (clause_form (literals x))) (c.rule.ensures ∙ c.issue-issued.ensures.rule) in
    let form = subst (λ (l : List ℕ). Wrote l c.put-to.result c.put-to.new.out (Ok c.put_form-to.result) c.put_form-to.new.out) same c.put_form-to.ensures in
    let end = wrote-next (hex (clause_form (literals c.in-Some.class.rule))) c.put-to.result c.put_form-to.result c.put-to.new.out c.put_form-to.new.out form (codes "\n") to out c.put-in-Some.ensures in
    let all = wrote-next (codes "rule ") c.args.at c.put-to.result c.args.out.now c.put-to.new.out c.put-to.ensures _ to out end in
    subst (λ (o : Option (Class Record)). Wrote (rule_line o) c.args.at c.args.out.now (Ok to) out) (sym c.in-Some.is) all
