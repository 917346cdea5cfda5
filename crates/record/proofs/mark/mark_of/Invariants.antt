use Rattle.std.proofs.Common.{◌≡◌, ◌<◌, drop}
use Rattle.record.specs.Marks.{mixed_with}
use Rattle.record.proofs.mark.mark_of.Given as goal

-- the bytes of the front still to be looked at make of the number so far what all of them make of 0
abbrev pub invariant-loop-byte : goal.invariant-loop-byte
invariant-loop-byte l = (l.mixed < 65536) × (mixed_with l.mixed (drop l.byte-index l.front) ≡ mixed_with 0 l.front)
