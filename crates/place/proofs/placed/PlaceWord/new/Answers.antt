use Rattle.std.proofs.Common.{List, [], ◌∷◌, ◌++◌, length, ap, ◌∙◌, arith}
use Rattle.bounded.specs.Elems.{elems}
use Rattle.bounded.proofs.Rooms.{pushed_room}
use Rattle.term.specs.declared.node.Node.{Node}
use Rattle.term.specs.declared.node.Node.TheVariants.{Variable}
use Rattle.term.specs.Lawful.{lawful}
use Rattle.term.specs.Words.{var}
use Rattle.term.proofs.Codings.{meant}
use Rattle.place.proofs.placed.PlaceWord.new.Goals as goal

pub invariant_of-result : goal.invariant_of-result
unfolding lawful
invariant_of-result c =
    let empty = c.new-nodes.ensures in
    let one = pushed_room 64 (Variable 0) (elems c.new-nodes.result) c.push.result (elems c.push.new.self) c.push.ensures (omega (arith, ap length empty)) ∙ ap (λ (l : List Node). l ++ Variable 0 ∷ []) empty in
    record { one = ap (λ (l : List Node). lawful l 1 0) one }

pub returns : goal.returns
returns c =
    let empty = c.new-nodes.ensures in
    meant (var 0) (elems c.push.new.self)
    (pushed_room 64 (Variable 0) (elems c.new-nodes.result) c.push.result (elems c.push.new.self) c.push.ensures (omega (arith, ap length empty)) ∙ ap (λ (l : List Node). l ++ Variable 0 ∷ []) empty)
