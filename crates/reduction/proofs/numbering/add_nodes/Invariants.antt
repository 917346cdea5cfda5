use Rattle.std.proofs.Common.{◌≡◌, ◌+◌, ◌≤◌, ◌++◌, length, map, fold, drop}
use Rattle.bounded.specs.Elems.{elems}
use Rattle.clauses.specs.Numbering.{enlist}
use Rattle.reduction.specs.Numbers.{renumbered_node, variables_in}
use Rattle.reduction.proofs.numbering.add_nodes.Given as goal

-- what is still to be added makes of the lists what all the nodes would make
abbrev pub invariant-loop-node : goal.invariant-loop-node
invariant-loop-node l =
    let order = fold enlist (elems l.initial.seen) (variables_in l.nodes) in
    record {
      nodes : elems l.out ++ map (renumbered_node order) (drop l.node-index l.nodes) ≡ elems l.initial.out ++ map (renumbered_node order) l.nodes;
      seen : fold enlist (elems l.seen) (variables_in (drop l.node-index l.nodes)) ≡ order;
      few : length (elems l.seen) ≤ length (elems l.out);
      room : length (elems l.out) ≡ length (elems l.initial.out) + l.node-index;
    }
