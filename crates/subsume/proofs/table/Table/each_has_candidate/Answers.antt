use Rattle.std.proofs.Common.{ℕ, ◌<◌, List, length, sym, ap, ◌∙◌, arith}
use Rattle.subsume.specs.Bits.{bit_at}
use Rattle.subsume.specs.Choices.{row}
use Rattle.subsume.proofs.Pruning.{row-read}
use Rattle.subsume.proofs.Retracting.{spares-none}
use Rattle.subsume.proofs.table.Table.each_has_candidate.Goals as goal

pub returns-then-is_within : goal.returns-then-is_within
returns-then-is_within g c =
    let t = c.args.self.now in
    let i = c.loop-i.i in
    let own : i < length t.literals.starts.now = omega (arith, c.len-i-end.ensures) in
    let same = row-read t.candidates i c.index-candidates-i.result (omega (arith, own, t.few.0, t.few.2, t.rows)) in
    λ kept.
    spares-none t.literals.nodes.now t.literals.starts.now t.targets.nodes.now t.targets.starts.now (ap (λ v. v.nodes.now) c.requires) (ap (λ v. v.starts.now) c.requires) (row t.candidates i) kept c.args.gone.now.words i
    (omega (arith, own, ap (λ v. length v.starts.now) c.requires)) (t.opened i own)
    (λ j b. c.is_within.ensures c.if-is_within.true j (sym (ap (λ (ws : List ℕ). bit_at ws j) same) ∙ b))
