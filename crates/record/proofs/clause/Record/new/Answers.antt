use Rattle.std.proofs.Common.{List, sym, ap, ◌∙◌}
use Rattle.term.specs.declared.node.Node.{Node}
use Rattle.term.specs.Coding.{decode}
use Rattle.record.specs.Clauses.{whole, clausal, distinct}
use Rattle.clauses.specs.Beginnings.{begins}
use Rattle.record.proofs.clause.Record.new.Goals as goal

pub invariant_of-result : goal.invariant_of-result
unfolding whole clausal distinct decode
invariant_of-result c =
    let none = c.new.ensures in
    record {
      whole = ap whole none;
      clause = ap (λ (l : List Node). clausal (decode l) 0) none;
      apart = ap (λ (l : List Node). distinct (decode l)) none;
      begun = c.new-2.ensures ∙ sym (ap (λ (l : List Node). begins 0 (decode l)) none);
    }

pub returns : goal.returns
unfolding decode
returns c = ap decode c.new.ensures
