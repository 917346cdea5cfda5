use Rattle.std.proofs.Common.{◌≡◌, ◌*◌, ◌≤◌, length, sym, ap, ◌∙◌, subst, arith}
use Rattle.term.specs.declared.node.Node.TheVariants.{Applied}
use Rattle.number.specs.Groups.{groups}
use Rattle.number.proofs.Formed.{length-form}
use Rattle.word.specs.Packed.{packed_symbol, packed_node, node_number}
use Rattle.word.proofs.Puts.{few-groups, length-symbol}
use Rattle.word.proofs.writing.node_length.Goals as goal

pub overflow_add-result : goal.overflow_add-result
overflow_add-result c =
    let first = few-groups c.packed_symbol.result c.form_length-in-Applied.result (omega arith) c.form_length-in-Applied.ensures.fewest in
    let second = few-groups c.in-Applied.places c.form_length-in-Applied-2.result (omega arith) c.form_length-in-Applied-2.ensures.fewest in
    omega arith

pub returns-in-Variable : goal.returns-in-Variable
returns-in-Variable c =
    let x = c.in-Variable.x in
    let same : length (packed_node c.args.node) ≡ c.form_length.result = ap (λ n. length (packed_node n)) c.in-Variable.is ∙ length-form (2 * x) ∙ sym c.form_length.ensures.table in
    let small : x ≤ 32767 = subst (λ n. node_number n ≤ 32767) c.in-Variable.is c.requires in
    let few = few-groups (2 * x) c.form_length.result (omega arith) c.form_length.ensures.fewest in
    record { value = sym same; bound = omega arith }

pub returns-in-Applied : goal.returns-in-Applied
returns-in-Applied c =
    let s = c.in-Applied.symbol in
    let k = c.in-Applied.places in
    let first = few-groups c.packed_symbol.result c.form_length-in-Applied.result (omega arith) c.form_length-in-Applied.ensures.fewest in
    let second = few-groups k c.form_length-in-Applied-2.result (omega arith) c.form_length-in-Applied-2.ensures.fewest in
    let same : length (packed_node c.args.node) ≡ length (packed_node (Applied s k)) = ap (λ n. length (packed_node n)) c.in-Applied.is in
    let long = length-symbol s k in
    let head : c.form_length-in-Applied.result ≡ groups (packed_symbol s) = c.form_length-in-Applied.ensures.table ∙ ap groups c.packed_symbol.ensures in
    record { value = omega (arith, c.form_length-in-Applied-2.ensures.table); bound = omega arith }
