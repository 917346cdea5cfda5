use Rattle.std.proofs.Common.{◌≡◌, ◌++◌, drop, string_bytes}
use Rattle.listing.specs.FaultLines.{layer_names}
use Rattle.word.specs.Faults.{layer_name}
use Rattle.listing.specs.Shown.{separated}
use Rattle.listing.proofs.faults.push_layers.Given as goal

-- what is still to be added makes the text whole
abbrev pub invariant-loop-k : goal.invariant-loop-k
invariant-loop-k l = string_bytes l.text ++ separated layer_name l.k (drop l.k l.layers) ≡ string_bytes l.initial.text ++ layer_names l.layers
