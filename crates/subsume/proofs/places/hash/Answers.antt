use Rattle.std.proofs.Common.{◌≡◌, ◌-◌, List, take, drop, sym, ap, ◌∙◌, arith}
use Rattle.std.proofs.Math.ListN.{drop_of_length-le}
use Rattle.term.specs.declared.node.Node.{Node}
use Rattle.term.proofs.Codings.{word-between}
use Rattle.subsume.specs.Meeting.{mixed, hash_of}
use Rattle.subsume.proofs.places.hash.Goals as goal

pub returns-clause-value : goal.returns-clause-value
unfolding hash_of
returns-clause-value c =
    let w = c.args.word in
    let items : List Node = take (c.args.end - w.start) (drop w.start w.nodes.now) in
    let none : mixed c.loop-node.hash (drop c.loop-node.node-index items) ≡ c.loop-node.hash = ap (mixed c.loop-node.hash) (drop_of_length-le items (omega arith)) in
    sym none ∙ c.loop-node.invariant.0 ∙ ap (mixed 0) (word-between w.nodes.now w.start c.args.end w.whole w.inside c.requires)
