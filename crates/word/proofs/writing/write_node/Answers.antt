use Rattle.std.proofs.Common.{◌≡◌, ◌+◌, ◌++◌, length, Ok, sym, refl, ap, ◌∙◌, arith, length-append}
use Rattle.std.proofs.Math.Seq.{paste}
use Rattle.std.proofs.lemmas.List.Edits.{paste_all}
use Rattle.number.specs.Forms.{form}
use Rattle.word.specs.Packed.{packed_node}
use Rattle.word.proofs.Puts.{wrote-puts, two-puts}
use Rattle.word.proofs.writing.write_node.Goals as goal

pub returns-in_ok-next-in-Applied : goal.returns-in_ok-next-in-Applied
returns-in_ok-next-in-Applied c =
    let out = c.args.out.now in
    let at = c.args.at in
    let first = form c.packed_symbol.result in
    let second = form c.in-Applied.places in
    let bytes : packed_node c.args.node ≡ first ++ second = ap packed_node c.in-Applied.is ∙ ap (λ n. form n ++ second) (sym c.packed_symbol.ensures) in
    let long = ap length bytes ∙ length-append first second in
    let mid = c.write-in-Applied.new.out in
    let one = wrote-puts _ at out c.write-in-Applied.result mid c.write-in-Applied.ensures.wrote (omega (arith, c.requires.room)) in
    let next : c.in_ok-next-in-Applied.next ≡ at + length first = c.in_ok-next-in-Applied.ensures.wrote.0 in
    let two = wrote-puts _ c.in_ok-next-in-Applied.next mid c.write-in-Applied-2.result c.write-in-Applied-2.new.out c.write-in-Applied-2.ensures.wrote (omega (arith, c.requires.room)) in
    let all = two-puts out mid first second at c.in_ok-next-in-Applied.next (omega (arith, c.requires.room)) next one.1 in
    let sum : c.in_ok-next-in-Applied.next + length second ≡ at + length (packed_node c.args.node) = omega arith in
    record {
      place = two.0 ∙ ap Ok sum;
      puts = two.1 ∙ sym (paste_all mid c.in_ok-next-in-Applied.next second (length second) refl) ∙ all ∙ ap (λ l. paste out at l (length l)) (sym bytes) ∙ paste_all out at (packed_node c.args.node) (length (packed_node c.args.node)) refl;
    }
