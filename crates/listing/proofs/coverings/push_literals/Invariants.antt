use Rattle.std.proofs.Common.{◌≡◌, ◌++◌, string_bytes}
use Rattle.record.specs.Records.{literals}
use Rattle.listing.specs.Explained.{lines, literal_line}
use Rattle.listing.proofs.coverings.push_literals.Given as goal

abbrev pub invariant-loop-i : goal.invariant-loop-i
invariant-loop-i l = string_bytes l.text ≡ string_bytes l.initial.text ++ lines (literal_line (literals l.rule) (literals l.mount) l.choice) l.i
