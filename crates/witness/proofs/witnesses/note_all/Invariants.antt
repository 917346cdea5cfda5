use Rattle.std.proofs.Common.{◌≡◌, drop}
use Rattle.record.specs.Records.{literals, clause}
use Rattle.witness.specs.Steps.{noted}
use Rattle.witness.specs.Witness.{meetings}
use Rattle.witness.proofs.witnesses.note_all.Given as goal

abbrev pub invariant-loop-i : goal.invariant-loop-i
invariant-loop-i l =
    noted (meetings (drop l.i (clause l.rule)) (literals l.mount) (drop l.i l.choice)) l.seen l.list ≡ noted (meetings (clause l.rule) (literals l.mount) l.choice) 0 l.initial.list
