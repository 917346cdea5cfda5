use Rattle.std.proofs.Common.{◌≡◌, ◌-◌}
use Rattle.term.specs.Words.{nil, len}
use Rattle.record.specs.Clauses.{variables}
use Rattle.record.specs.Records.{literals}
use Rattle.record.specs.Marks.{Marked}
use Rattle.record.specs.Reads.{read_literals}
use Rattle.record.proofs.clause.packing.read_literals.Given as goal

-- what is still to be read makes of the record what all the literals would make
abbrev pub invariant-loop-k : goal.invariant-loop-k
invariant-loop-k l =
    (len (literals l.out) ≡ l.k-counter)
    × (l.seen ≡ variables (literals l.out))
    × (read_literals (l.count - l.k-counter) (literals l.out) l.input l.at ≡ read_literals l.count nil l.input l.initial.at)
    × Marked (literals l.out) l.marks
