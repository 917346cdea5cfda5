use Rattle.std.proofs.Common.{List, All, length, sym, refl, ap, ◌∙◌, subst, arith}
use Rattle.clauses.specs.Beginnings.{begins}
use Rattle.term.specs.Coding.{decode}
use Rattle.term.specs.Words.{Word}
use Rattle.term.proofs.Codings.{decode-all, length-codes}
use Rattle.record.specs.Clauses.{Literal}
use Rattle.record.specs.Held.{held}
use Rattle.record.specs.Kind.{joined, refused}
use Rattle.record.specs.Records.{literals}
use Rattle.record.proofs.Reducing.{raw-literals}
use Rattle.record.proofs.clause.kind.RecordKind.join.Goals as goal

pub raw_clause-requires-clause-begun : goal.raw_clause-requires-clause-begun
raw_clause-requires-clause-begun c =
    let ls = literals c.args.self.now in
    c.view.ensures.starts ∙ ap (begins 0) (sym (decode-all ls) ∙ ap decode (sym c.view.ensures.nodes))

pub raw_clause-requires-clause-small : goal.raw_clause-requires-clause-small
raw_clause-requires-clause-small c =
    let h = (held c.args.self.now).small in
    omega (arith, ap length c.view.ensures.nodes, length-codes (literals c.args.self.now))

pub reduced-requires-clause-variables : goal.reduced-requires-clause-variables
reduced-requires-clause-variables c = rw c.view-3.ensures.nodes c.raw_clause.ensures.variables

pub reduced-requires-clause-literals : goal.reduced-requires-clause-literals
reduced-requires-clause-literals c =
    subst (λ (l : List Word). All Literal l)
    (sym (c.view-3.ensures.literals ∙ c.raw_clause.ensures.literals ∙ rw (c.view.ensures.literals, c.view-2.ensures.literals) refl)) (raw-literals c.args.self.now c.args.other.now)

pub returns-in-Some-clause-joined : goal.returns-in-Some-clause-joined
returns-in-Some-clause-joined c =
    let made = rw (c.view-3.ensures.literals, c.raw_clause.ensures.literals, c.view.ensures.literals, c.view-2.ensures.literals) at c.in-Some.ensures in
    joined c.args.self.now c.args.other.now c.in-Some.rest made.0 made.1 made.2

pub returns-in-Some-clause-value : goal.returns-in-Some-clause-value
returns-in-Some-clause-value c = rw (c.view-3.ensures.literals, c.raw_clause.ensures.literals, c.view.ensures.literals, c.view-2.ensures.literals) at c.in-Some.ensures

pub returns-in-None-clause-joined : goal.returns-in-None-clause-joined
returns-in-None-clause-joined c =
    let beyond = rw (c.view-3.ensures.literals, c.raw_clause.ensures.literals, c.view.ensures.literals, c.view-2.ensures.literals) at c.in-None.ensures in
    refused c.args.self.now c.args.other.now beyond

pub returns-in-None-clause-value : goal.returns-in-None-clause-value
returns-in-None-clause-value c =
    let beyond = rw (c.view-3.ensures.literals, c.raw_clause.ensures.literals, c.view.ensures.literals, c.view-2.ensures.literals) at c.in-None.ensures in
    (beyond, refl, refl)
