use Rattle.std.proofs.Common.{sym, ◌∙◌, subst}
use Rattle.std.proofs.lemmas.Bool.{false≢true}
use Rattle.bounded.specs.Elems.{elems}
use Rattle.clauses.specs.Clauses.{literals_at}
use Rattle.subsume.specs.declared.view.View.{View}
use Rattle.subsume.specs.Retracting.{Spares}
use Rattle.reduction.proofs.Turning.{apart, decided-without, within-more}
use Rattle.reduction.proofs.tidying.Decided.choices_without.Goals as goal

pub returns-then-not-look_out : goal.returns-then-not-look_out
returns-then-not-look_out g c θ r =
    let d = c.args.self.now in
    let spares = subst (λ (v : View). Spares d.held.words c.args.without.now.words c.look_out.new.gone.words (literals_at v.nodes.now v.starts.now) c.look_out.result) c.requires.whole.1 c.look_out.ensures.spares in
    false≢true (sym c.if-not-look_out.true ∙ (spares θ r).0)

pub returns : goal.returns
returns g c =
    let a = c.args.table.now.targets in
    let t = c.args.table.now in
    let I = literals_at t.literals.nodes.now t.literals.starts.now in
    let s = c.requires.standing in
    let d = c.args.self.now in
    let after = c.args.without.now.words in
    let out = c.look_out.new.gone.words in
    let spares = subst (λ (v : View). Spares d.held.words after out (literals_at v.nodes.now v.starts.now) c.look_out.result) c.requires.whole.1 c.look_out.ensures.spares in
    let away = apart a.nodes.now a.starts.now (elems d.kept) c.args.i c.requires.literal d.held.words d.gone.words c.args.mapped.now.words I s.progress s.image after c.requires.here c.requires.others out c.look_out.ensures.more c.look_out.ensures.apart in
    decided-without a.nodes.now a.starts.now (elems d.kept) c.args.i c.requires.literal d.held.words d.gone.words c.args.mapped.now.words I s.progress s.image after c.requires.here c.requires.others out c.look_out.ensures.more c.look_out.ensures.apart c.choose_outside.result (λ θ q. (spares θ q).1)
    (c.choose_outside.ensures d.held.words d.gone.words (λ j b. c.look_out.ensures.more j (within-more d.gone.words after c.args.i c.requires.here c.requires.others j b)) c.requires.spared away)
