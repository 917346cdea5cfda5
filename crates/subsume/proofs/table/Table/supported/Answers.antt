use Rattle.std.proofs.Common.{◌<◌, ◌^◌, length, get_or, ap, arith}
use Rattle.term.specs.Words.{var}
use Rattle.subsume.specs.Choices.{row}
use Rattle.subsume.proofs.Pruning.{row-read}
use Rattle.subsume.proofs.Retracting.{told, others-more, turns-itself, unsupported}
use Rattle.subsume.proofs.table.Table.supported.Goals as goal

pub loop-w-preserved : goal.loop-w-preserved
loop-w-preserved g c =
    let t = c.args.self.now in
    let N = t.literals.nodes.now in
    let S = t.literals.starts.now in
    let M = t.targets.nodes.now in
    let T = t.targets.starts.now in
    let slot = c.args.slot.now in
    let w = c.loop-w.w in
    let gone = c.args.gone.now.words in
    let own = (told N S M T t.fronts.now t.slots.now slot t.linked c.requires.slot).0 in
    let same = row-read t.candidates slot.literal c.index-candidates-i.result (omega (arith, own, t.few.0, t.few.2, t.rows)) in
    let fits : get_or gone w 0 < 2 ^ 64 = omega arith in
    others-more N S M T (row t.candidates slot.literal) gone slot.literal slot.variable c.label-label.result w fits (rw same (c.gives.ensures c.if-gives.false)) c.loop-w.invariant

pub returns : goal.returns
returns g c =
    let t = c.args.self.now in
    let N = t.literals.nodes.now in
    let S = t.literals.starts.now in
    let M = t.targets.nodes.now in
    let T = t.targets.starts.now in
    let slot = c.args.slot.now in
    let nodes = ap (λ v. v.nodes.now) c.requires.same in
    let starts = ap (λ v. v.starts.now) c.requires.same in
    let own = (told N S M T t.fronts.now t.slots.now slot t.linked c.requires.slot).0 in
    λ _ kept.
    unsupported N S M T nodes starts (row t.candidates slot.literal) kept c.args.gone.now.words slot.literal slot.variable c.label-label.result c.loop-w.w (omega (arith, own, ap length starts)) (omega (arith, t.few)) (t.opened slot.literal own) (c.label-label.ensures var (turns-itself N S M T nodes starts slot.literal)) c.loop-w.invariant
