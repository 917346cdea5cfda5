use Rattle.std.proofs.Common.{◌≡◌, ◌++◌, string_bytes}
use Rattle.record.specs.Records.{literals}
use Rattle.listing.specs.Explained.{lines, variable_line}
use Rattle.listing.proofs.coverings.push_variables.Given as goal

abbrev pub invariant-loop-x : goal.invariant-loop-x
invariant-loop-x l = string_bytes l.text ≡ string_bytes l.initial.text ++ lines (variable_line (literals l.mount) l.list) l.x-counter
