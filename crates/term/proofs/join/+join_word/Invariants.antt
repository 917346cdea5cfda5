use Rattle.std.proofs.Common.{◌+◌, ◌-◌, ◌<◌, ◌≤◌, length}
use Rattle.bounded.specs.Elems.{elems}
use Rattle.term.specs.Joined.{Inside}
use Rattle.term.proofs.Joinings.{Going}
use Rattle.term.proofs.join.+join_word.Given as goal

-- the nodes left fall
abbrev pub decreases-join_word : goal.decreases-join_word
decreases-join_word g l = length l.a.nodes.now - l.a.start

-- how far the join has come, and what joining the next two words requires
abbrev pub invariant-loop : goal.invariant-loop
invariant-loop g l = record {
  going : Going l.a.nodes.now l.b.nodes.now l.end (l.end - l.counter) l.p l.q (elems l.out) (elems l.pairs) l.initial.p l.initial.q (elems l.initial.out) (elems l.initial.pairs);
  later : l.a.start < l.p;
  left : l.counter < l.end → l.p < length l.a.nodes.now;
  right : l.counter < l.end → l.q < length l.b.nodes.now;
  known : Inside l.a.nodes.now l.b.nodes.now (elems l.pairs);
  room : length (elems l.out) + (length l.a.nodes.now - l.p) ≤ g.row.N;
  spare : length (elems l.pairs) + (length l.a.nodes.now - l.p) ≤ g.row.N;
}
