use Rattle.std.proofs.Common.{sym, ap, ◌∙◌}
use Rattle.clauses.specs.Beginnings.{begins}
use Rattle.term.specs.Coding.{decode}
use Rattle.term.proofs.Codings.{decode-all}
use Rattle.record.specs.Records.{literals}
use Rattle.printed.proofs.tests.joins.raw.Goals as goal

-- the literals of a record begin where its nodes say
pub raw_clause-requires-clause-begun : goal.raw_clause-requires-clause-begun
raw_clause-requires-clause-begun g c =
    c.view.ensures.starts ∙ ap (begins 0) (sym (decode-all (literals c.in_ok-left.left)) ∙ ap decode (sym c.view.ensures.nodes))
