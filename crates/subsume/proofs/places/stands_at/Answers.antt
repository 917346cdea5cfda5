use Rattle.std.proofs.Common.{ℕ, nat_eq, get_or, ap, ◌∙◌, sym}
use Rattle.std.proofs.lemmas.Bool.{both_ways}
use Rattle.term.specs.Sameness.{same_node-Decides}
use Rattle.term.specs.declared.node.Node.TheVariants.{Variable}
use Rattle.subsume.proofs.Roots.{same_roots, same_leaves}
use Rattle.subsume.proofs.places.stands_at.Goals as goal

pub returns-then-places-eq0 : goal.returns-then-places-eq0
returns-then-places-eq0 c =
    let w = c.args.word in
    let same = (same_node-Decides (get_or w.nodes.now w.start (Variable 0)) (get_or w.nodes.now c.args.p (Variable 0))).0 (sym c.eq.ensures ∙ c.if-eq.true) in
    let equal = same_leaves w.nodes.now w.whole w.start c.args.p (Variable 0) w.inside c.requires same (sym c.places.ensures.value ∙ c.if-places-eq0.true) in
    (λ _. equal, λ _. ap (λ (n : ℕ). nat_eq n 0) c.if-places-eq0.true)

pub returns-else-eq : goal.returns-else-eq
returns-else-eq c =
    let w = c.args.word in
    let same = same_node-Decides (get_or w.nodes.now w.start (Variable 0)) (get_or w.nodes.now c.args.p (Variable 0)) in
    (λ t. absurd (both_ways _ c.if-eq.false t), λ e. c.eq.ensures ∙ same.1 (same_roots w.nodes.now w.whole w.start c.args.p (Variable 0) w.inside c.requires e))
