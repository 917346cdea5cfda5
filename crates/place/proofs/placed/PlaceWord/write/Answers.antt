use Rattle.std.proofs.Common.{List, sym, ◌∙◌, subst, arith}
use Rattle.bounded.specs.Elems.{elems}
use Rattle.term.specs.declared.node.Node.{Node}
use Rattle.word.specs.Packed.{packed, Writable}
use Rattle.number.specs.Writes.{Wrote}
use Rattle.word.proofs.Laws.{lawful-writable}
use Rattle.place.specs.Held.{held, few}
use Rattle.place.proofs.Forms.{reads-back}
use Rattle.place.proofs.placed.PlaceWord.write.Goals as goal

pub write_nodes-requires : goal.write_nodes-requires
write_nodes-requires c =
    let p = c.args.self.now in
    subst Writable (sym c.as_slice.ensures.value) (lawful-writable (elems p.nodes) 1 0 p.one (omega (arith, few p)))

pub returns : goal.returns
returns c =
    let p = c.args.self.now in
    let same = c.as_slice.ensures.value ∙ sym (held p).nodes-of in
    record {
      wrote = subst (λ (l : List Node). Wrote (packed l) 0 c.args.out.now c.write_nodes.result c.write_nodes.new.out) same c.write_nodes.ensures.wrote;
      back = reads-back p;
    }
