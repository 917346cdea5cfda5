use Rattle.std.proofs.Common.{◌≡◌, List, drop, sym, ap, ◌∙◌, arith}
use Rattle.std.proofs.lemmas.List.{at_drop_all}
use Rattle.record.specs.Records.{literals}
use Rattle.term.specs.Lawful.{stood}
use Rattle.term.specs.declared.node.Node.{Node}
use Rattle.witness.proofs.Occurring.{occurring, occurring-all}
use Rattle.witness.proofs.witnesses.count_variables.Goals as goal

pub returns : goal.returns
returns c =
    let count = c.loop-node.count in
    let nodes = c.nodes-node-items.result.now in
    let none : stood count (occurring (drop c.loop-node.node-index nodes)) ≡ count = at_drop_all (λ (ns : List Node). stood count (occurring ns)) nodes c.loop-node.node-index (omega arith) in
    sym none
    ∙ c.loop-node.invariant
    ∙ ap (λ (ns : List Node). stood 0 (occurring ns)) c.nodes-node-items.ensures.value
    ∙ ap (stood 0) (occurring-all (literals c.args.rule.now))
