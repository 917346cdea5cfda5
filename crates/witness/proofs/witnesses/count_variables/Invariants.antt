use Rattle.std.proofs.Common.{◌≡◌, drop}
use Rattle.term.specs.Lawful.{stood}
use Rattle.witness.proofs.Occurring.{occurring}
use Rattle.witness.proofs.witnesses.count_variables.Given as goal

abbrev pub invariant-loop-node : goal.invariant-loop-node
invariant-loop-node l = stood l.count (occurring (drop l.node-index l.node-items)) ≡ stood 0 (occurring l.node-items)
