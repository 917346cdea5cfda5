use Rattle.std.proofs.Common.{◌-◌, ◌<◌, length, All}
use Rattle.bounded.specs.Elems.{elems}
use Rattle.clauses.specs.Clauses.{literals_at}
use Rattle.reduction.specs.Tidyings.{Inside, Standing}
use Rattle.reduction.proofs.tidying.tidied_in.Given as goal

abbrev pub invariant-loop-next : goal.invariant-loop-next
invariant-loop-next g l = record {
  inside : Inside (length l.clause.nodes.now) l.decided;
  begun : All (λ s. s < length l.clause.nodes.now) (elems l.image);
  standing : Standing l.clause.nodes.now (literals_at l.clause.nodes.now l.clause.starts.now) l.mapped.words (literals_at l.clause.nodes.now (elems l.image)) l.at l.decided;
}

-- the literals that have not had their turn fall
abbrev pub decreases-loop-next : goal.decreases-loop-next
decreases-loop-next g l = length l.clause.starts.now - l.at
