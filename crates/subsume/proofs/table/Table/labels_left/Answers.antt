use Rattle.std.proofs.Common.{ℕ, ◌≤◌, List, length, take, ap, sym, ◌∙◌, subst, arith}
use Rattle.std.proofs.lemmas.List.{get_or_default}
use Rattle.subsume.specs.declared.front.Front.{Front}
use Rattle.subsume.specs.Choices.{Given, no_front, front_at}
use Rattle.subsume.proofs.Pruning.{given-first}
use Rattle.subsume.proofs.table.Table.labels_left.Goals as goal

pub returns-in-Some : goal.returns-in-Some
returns-in-Some g c =
    let t = c.args.self.now in
    let slot = c.args.slot.now in
    let n = length t.targets.starts.now in
    let front = front_at t.fronts.now slot.front in
    let same = get_or_default t.fronts.now slot.front (no_front g.row.N) c.index-self-slot.result c.requires in
    let few : n ≤ length front.labels = omega (arith, t.few.1, front.sized) in
    let given = given-first front.labels n few front.met.words c.labels.result.words (c.labels.ensures front.met.words (take n front.labels) c.in-Some.ensures) in
    let words = (c.is_same.ensures.0 c.if-is_same.true) ∙ ap (λ (z : Front g.row.N). z.met.words) (sym same) in
    subst (λ (z : List ℕ). Given z front.labels n c.labels.result.words) (sym words) given
