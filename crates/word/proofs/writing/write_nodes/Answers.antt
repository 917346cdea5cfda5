use Rattle.std.proofs.Common.{◌≡◌, ◌+◌, ◌≤◌, [], ◌∷◌, ◌++◌, length, get_or, take, drop, Ok, sym, refl, ap, ◌∙◌, arith}
use Rattle.std.proofs.lemmas.List.{drop_more, drop_all, drop_at, length-take-le}
use Rattle.std.proofs.lemmas.List.Edits.{paste_none, paste_all}
use Rattle.std.proofs.Math.Seq.{paste}
use Rattle.term.specs.declared.node.Node.TheVariants.{Variable}
use Rattle.word.specs.Packed.{packed_node, packed, seen_after}
use Rattle.word.proofs.Laws.{packed_none, packed_more}
use Rattle.word.proofs.Puts.{length_more, two-puts}
use Rattle.word.proofs.Back.{reads-packed}
use Rattle.number.proofs.Answers.{ok_same}
use Rattle.word.proofs.writing.write_nodes.Goals as goal

pub write_node-requires : goal.write_node-requires
write_node-requires c =
    let nodes = c.args.nodes.now in
    let i = c.loop-node.node-index in
    let node = get_or nodes i (Variable 0) in
    let more : drop i nodes ≡ node ∷ drop (i + 1) nodes = drop_more nodes i (Variable 0) (omega arith) in
    let long = ap (λ l. length (packed l)) more ∙ length_more node (drop (i + 1) nodes) in
    record {
      number = c.requires i (Variable 0) (omega arith);
      room = omega (arith, long, c.packed_length-length.ensures);
    }

pub loop-node-preserved : goal.loop-node-preserved
loop-node-preserved c =
    let nodes = c.args.nodes.now in
    let i = c.loop-node.node-index in
    let node = get_or nodes i (Variable 0) in
    let out = c.loop-node.out in
    let to = c.loop-node.to in
    let rest = packed (drop (i + 1) nodes) in
    let more : drop i nodes ≡ node ∷ drop (i + 1) nodes = drop_more nodes i (Variable 0) (omega arith) in
    let split : packed (drop i nodes) ≡ packed_node node ++ rest = ap packed more ∙ packed_more node (drop (i + 1) nodes) in
    let long = ap (λ l. length (packed l)) more ∙ length_more node (drop (i + 1) nodes) in
    let next : c.in_ok-to.to ≡ to + length (packed_node node) = ok_same _ _ c.in_ok-to.ensures.place in
    let same = two-puts out c.write_node.new.out (packed_node node) rest to c.in_ok-to.to (omega (arith, c.packed_length-length.ensures)) next c.write_node.ensures.puts ∙ ap (λ l. paste out to l (length l)) (sym split) in
    (omega arith, same ∙ c.loop-node.invariant.1)

pub returns : goal.returns
returns c =
    let nodes = c.args.nodes.now in
    let before = c.args.out.now in
    let out = c.loop-node.out in
    let at = c.args.at in
    let to = c.loop-node.to in
    let none : packed (drop c.loop-node.node-index nodes) ≡ [] = ap packed (drop_all c.loop-node.node-index nodes (omega arith)) ∙ packed_none in
    let place : to ≡ at + length (packed nodes) = omega (arith, ap length none) in
    let inside : to ≤ length before = omega (arith, c.packed_length-length.ensures) in
    let put : out ≡ take at before ++ (packed nodes ++ drop to before) =
    paste_none out to [] ∙ sym (ap (λ l. paste out to l (length l)) none) ∙ c.loop-node.invariant.1 ∙ paste_all before at (packed nodes) (length (packed nodes)) refl ∙ ap (λ n. take at before ++ (packed nodes ++ drop n before)) (sym place) in
    let stands : drop at out ≡ packed nodes ++ drop to before = ap (drop at) put ∙ drop_at (take at before) (packed nodes ++ drop to before) at (length-take-le at before (omega arith)) in
    record {
      wrote = (place, inside, put);
      back = λ goal room seen acc words short. reads-packed nodes goal room seen out (drop to before) at acc c.requires words short stands ∙ ap (λ n. Ok (acc ++ nodes, n, seen_after nodes seen)) (sym place);
    }
