use Rattle.std.proofs.Common.{List, All, sym, subst}
use Rattle.term.specs.Words.{Word}
use Rattle.record.specs.Clauses.{Literal}
use Rattle.record.specs.Kind.{tidied}
use Rattle.record.specs.Records.{clause}
use Rattle.record.proofs.Reducing.{record-literals, record-within, not-beyond}
use Rattle.record.proofs.clause.kind.RecordKind.tidy.Goals as goal

pub reduced-requires-clause-literals : goal.reduced-requires-clause-literals
reduced-requires-clause-literals c = subst (λ (l : List Word). All Literal l) (sym c.view.ensures.literals) (record-literals c.args.self.now)

pub returns-in-Some-clause-tidied : goal.returns-in-Some-clause-tidied
returns-in-Some-clause-tidied c =
    let made = rw c.view.ensures.literals at c.in-Some.ensures in
    tidied c.args.self.now c.in-Some.rest made.0 made.1 made.2

pub returns-in-Some-clause-value : goal.returns-in-Some-clause-value
returns-in-Some-clause-value c = rw c.view.ensures.literals at c.in-Some.ensures

pub returns-in_default-clause-tidied : goal.returns-in_default-clause-tidied
returns-in_default-clause-tidied c =
    let r = c.args.self.now in
    let beyond = rw c.view.ensures.literals at c.in_default.ensures in
    absurd (not-beyond (clause r) (record-within r) beyond)

pub returns-in_default-clause-value : goal.returns-in_default-clause-value
returns-in_default-clause-value c =
    let r = c.args.self.now in
    let beyond = rw c.view.ensures.literals at c.in_default.ensures in
    absurd (not-beyond (clause r) (record-within r) beyond)
