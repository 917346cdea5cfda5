use Rattle.std.proofs.Common.{Ok, take}
use Rattle.number.specs.Writes.{Wrote}
use Rattle.listing.specs.Reduced.{hex}
use Rattle.session.proofs.output.put_hex.Given as goal

abbrev pub invariant-loop-byte : goal.invariant-loop-byte
invariant-loop-byte l = Wrote (hex (take l.byte-index l.bytes)) l.at l.initial.out (Ok l.to) l.out
