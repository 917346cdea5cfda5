use Rattle.std.proofs.Common.{◌≡◌, ℕ, List, length, set, ap, ◌∙◌, subst, sym, ⊎_elim, arith}
use Rattle.std.proofs.lemmas.List.{get_or-replicate, length-replicate, length-set}
use Rattle.std.proofs.lemmas.Bool.{cases_eq}
use Rattle.bounded.specs.Elems.{elems}
use Rattle.subsume.specs.declared.bits.BitSet.{BitSet}
use Rattle.subsume.specs.Bits.{bit_at}
use Rattle.subsume.specs.Choices.{none, row}
use Rattle.subsume.specs.Solving.{TurnsAt}
use Rattle.subsume.proofs.Fronts.{fronted-first}
use Rattle.subsume.proofs.Pruning.{row-set_same, row-set_other}
use Rattle.subsume.proofs.table.Table.link.Goals as goal

pub loop-i-init : goal.loop-i-init
loop-i-init g c = record {
  fronted = fronted-first c.args.literals c.args.targets.now.view (elems c.begin.new.self.fronts) c.begin.ensures.size c.begin.ensures.begun;
  linked = λ s h. absurd (omega (arith, ap (λ b. length (elems b)) c.begin.ensures.same, ap length c.clear.ensures.0, h));
  rows = length-replicate g.row.N c.full-candidates.result;
  opened = λ i h j inside θ t.
      ap (λ (z : BitSet 4). bit_at z.words j) (get_or-replicate g.row.N i c.full-candidates.result none (omega (arith, c.requires.0, h)))
      ∙ c.full-candidates.ensures j (omega (arith, c.requires.1, c.requires.2, inside));
}

pub loop-i-preserved : goal.loop-i-preserved
loop-i-preserved g c =
    let a = c.args.literals in
    let b = c.args.targets.now.view in
    let i = c.loop-i.i in
    let sets = c.loop-i.candidates in
    let new = c.add_literal.result in
    record {
      fronted = c.add_literal.ensures.fronted;
      linked = c.add_literal.ensures.linked;
      rows = length-set sets i new ∙ c.loop-i.invariant.rows;
      opened = λ k h j inside θ t.
          let here = λ (words : List ℕ). bit_at words j in
          ⊎_elim
          (λ (e : k ≡ i).
          ap (λ l. here (row (set sets i new) l)) e
          ∙ ap here (row-set_same sets i new (omega (arith, c.loop-i.invariant.rows, c.requires.0, h, e)))
          ∙ c.add_literal.ensures.left j inside θ (subst (λ l. TurnsAt a.nodes.now a.starts.now b.nodes.now b.starts.now θ l j) e t))
          (λ n. ap here (row-set_other sets i k new n) ∙ c.loop-i.invariant.opened k h j inside θ t)
          (cases_eq k i);
    }

pub invariant_of-result : goal.invariant_of-result
invariant_of-result g c = record {
  few = (c.requires.0, c.requires.1, c.requires.2, c.requires.3);
  wide = c.requires.4;
  columned = rw (c.as_slice.ensures.value, c.as_slice-3.ensures.value, sym c.len.ensures) c.tabulate.ensures.columned;
  rows = c.loop-i.invariant.rows;
  opened = c.loop-i.invariant.opened;
  linked = rw (c.as_slice.ensures.value, c.as_slice-2.ensures.value, c.tabulate.ensures.same.1, c.tabulate.ensures.same.0) c.loop-i.invariant.linked;
}
