use Rattle.std.proofs.Common.{◌≡◌, length}
use Rattle.bounded.specs.Elems.{elems}
use Rattle.subsume.specs.Solving.{Open, Linked, Fronted}
use Rattle.subsume.proofs.table.Table.link.Given as goal

abbrev pub invariant-loop-i : goal.invariant-loop-i
invariant-loop-i g l =
    let t = l.targets.view in
    record {
      fronted : Fronted l.literals.nodes.now l.literals.starts.now t.nodes.now t.starts.now (elems l.slots.fronts);
      linked : Linked l.literals.nodes.now l.literals.starts.now t.nodes.now t.starts.now (elems l.slots.fronts) (elems l.slots.rows);
      rows : length l.candidates ≡ g.row.N;
      opened : Open l.literals.nodes.now l.literals.starts.now t.nodes.now t.starts.now l.candidates (length l.literals.starts.now);
    }
