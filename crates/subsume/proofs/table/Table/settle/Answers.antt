use Rattle.std.proofs.Common.{◌≡◌, ℕ, ◌≤◌, List, length, sym, ap, ◌∙◌, subst, arith}
use Rattle.subsume.specs.declared.state.State.{State}
use Rattle.subsume.specs.Bits.{bit_at}
use Rattle.subsume.specs.Choices.{Picked, Clear, undone}
use Rattle.subsume.proofs.Pruning.{row-read}
use Rattle.subsume.proofs.Picking.{undone-set, picked-set, clear-set}
use Rattle.subsume.proofs.table.Table.settle.Goals as goal
use Rattle.subsume.proofs.table.Table.settle.Goals.{in-Some-settled, in_default-settled}

pub loop-i-preserved : goal.loop-i-preserved
loop-i-preserved g c =
    let t = c.args.self.now in
    let m = length t.literals.starts.now in
    let n = length t.targets.starts.now in
    let first = c.args.state.now in
    let P : State g.row.N → Type 0 = λ (s : State g.row.N). Picked s.sets m n s.picks × (undone s.picks ≤ undone first.picks) × (s.sets ≡ first.sets) × ((gone : List ℕ) → Clear gone first.sets m n first.picks → Clear gone s.sets m n s.picks) in
    let old = c.loop-i.state in
    let i = c.loop-i.i in
    let inv = c.loop-i.invariant in
    let kept : P c.match-settled.state = elim c.match-settled.branch [
      | in-Some-settled w ↦
          let j = w.in-Some-settled.j in
          let told = w.in-Some-settled.ensures in
          let row = row-read old.sets i c.index-state-i.result (omega (arith, t.few.0, t.few.2, old.rows)) in
          subst P (sym w.state-is) (
            picked-set m n old.sets old.picks i j (omega (arith, t.few.0, old.sized)) (omega (arith, told.0)) inv.picked (λ k h e. told.2 k (omega (arith, t.few.1, t.few.2)) (sym (ap (λ (ws : List ℕ). bit_at ws k) row) ∙ e)),
            omega (arith, inv.fewer, undone-set old.picks i j),
            inv.same,
            λ gone h.
                let d = inv.clear gone h in
                clear-set m n gone old.sets old.picks i j (omega (arith, t.few.0, old.sized)) (d.lefts i (omega arith) j (omega (arith, told.0)) (ap (λ (ws : List ℕ). bit_at ws j) row ∙ told.3)) d,
          )
      | in_default-settled w ↦ subst P (sym w.state-is) (inv.picked, inv.fewer, inv.same, inv.clear)
    ] in
    record { picked = kept.0; fewer = kept.1; same = kept.2; clear = kept.3 }
