use Rattle.std.proofs.Common.{◌≡◌, ℕ, length, sym, refl, subst, arith}
use Rattle.std.proofs.lemmas.Grind.{common_steps}
use Rattle.term.specs.Matched.{Bindings}
use Rattle.subsume.specs.Choices.{picked}
use Rattle.subsume.proofs.Checked.{Bound, bound-none, bound_all}
use Rattle.subsume.proofs.check.check_each.Goals as goal

pub loop-i-init : goal.loop-i-init
loop-i-init c =
    let a = c.args.a in
    let b = c.args.b in
    let f = picked c.args.picks.now in
    subst (λ (m : Bindings). Bound a.nodes.now a.starts.now b.nodes.now b.starts.now f 0 m) (sym c.requires.none)
    (bound-none a.nodes.now a.starts.now b.nodes.now b.starts.now f (length c.args.bound.now))

pub returns : goal.returns
returns c =
    let a = c.args.a in
    let b = c.args.b in
    let f = picked c.args.picks.now in
    let n = length a.starts.now in
    let all : c.loop-i.i ≡ n = grind (arith, common_steps) in (
      λ _. bound_all a.nodes.now a.starts.now b.nodes.now b.starts.now f c.loop-i.bound
          (subst (λ (n : ℕ). Bound a.nodes.now a.starts.now b.nodes.now b.starts.now f n c.loop-i.bound) all c.loop-i.invariant),
      λ _. refl,
    )
