use Rattle.std.proofs.Common.{◌≡◌, ℕ, ◌+◌, ◌<◌, get_or, None, unwrap_or, sym, ap, ◌∙◌, subst, arith}
use Rattle.std.proofs.lemmas.List.{get_or-take, length-take}
use Rattle.bounded.specs.declared.list.Bounded.{Bounded}
use Rattle.bounded.specs.Elems.{elems}
use Rattle.bounded.proofs.Rooms.{pushed_room}
use Rattle.subsume.specs.declared.bits.BitSet.{BitSet}
use Rattle.subsume.specs.Choices.{picked}
use Rattle.reduction.proofs.Gathering.{Gathered, gathered-again, gathered-new, gathered-taken}
use Rattle.reduction.proofs.tidying.targets.Goals as goal
use Rattle.reduction.proofs.tidying.targets.Goals.{then-not-test, else-not-test}

pub loop-pick-preserved : goal.loop-pick-preserved
loop-pick-preserved g c =
    let a = c.args.clause in
    let picks = c.args.picks.now in
    let choice = picked picks in
    let k = c.loop-pick.pick-index in
    let mapped = c.loop-pick.mapped.words in
    let starts = elems c.loop-pick.image in
    let before = c.loop-pick.invariant in
    let within : k < c.args.count = omega (arith, c.loop-pick-test.true, length-take c.args.count picks) in
    let j = c.unwrap_or-j.result in
    let is : j ≡ choice k = c.unwrap_or-j.ensures ∙ ap (λ o. unwrap_or o 0) (get_or-take c.args.count picks k None within) in
    let next : (m : BitSet 4) (i : Bounded ℕ g.row.N) → c.if-not-test.mapped ≡ m → c.if-not-test.image ≡ i → Gathered a.nodes.now a.starts.now choice (k + 1) m.words (elems i) → Gathered a.nodes.now a.starts.now choice (k + 1) c.if-not-test.mapped.words (elems c.if-not-test.image) =
    λ m i e f h. subst (λ (x : BitSet 4). Gathered a.nodes.now a.starts.now choice (k + 1) x.words (elems c.if-not-test.image)) (sym e) (subst (λ (x : Bounded ℕ g.row.N). Gathered a.nodes.now a.starts.now choice (k + 1) m.words (elems x)) (sym f) h) in
    elim c.if-not-test.branch [
      | then-not-test w ↦
          let pushed = pushed_room g.row.N (get_or a.starts.now j 0) starts w.push.result (elems w.push.new.self) w.push.ensures (omega (arith, before.few, c.requires.few.1)) in
          next w.include.new.self w.push.new.self w.mapped-is w.image-is
          (rw (pushed, is) (gathered-new a.nodes.now a.starts.now choice k mapped starts before w.include.new.self.words (c.requires.chosen k within)
          (λ s e. rw e (a.inside (choice k) (c.requires.chosen k within))) (rw is at w.include.ensures.here) (rw is at w.include.ensures.others)))
      | else-not-test w ↦
          next c.loop-pick.mapped c.loop-pick.image w.mapped-is w.image-is
          (gathered-again a.nodes.now a.starts.now choice k mapped starts before (rw is at (c.test.ensures.0 w.if-not-test.false)))
    ]

pub returns-clause-taken : goal.returns-clause-taken
returns-clause-taken g c =
    let a = c.args.clause in
    let picks = c.args.picks.now in
    let k = c.loop-pick.pick-index in
    let all : k ≡ c.args.count = omega (arith, c.loop-pick-test.false, c.loop-pick.auto.pick-index-end, length-take c.args.count picks, c.told-picks, c.requires.few.1) in
    gathered-taken a.nodes.now a.starts.now (picked picks) c.args.count c.loop-pick.mapped.words (elems c.loop-pick.image)
    (subst (λ n. Gathered a.nodes.now a.starts.now (picked picks) n c.loop-pick.mapped.words (elems c.loop-pick.image)) all c.loop-pick.invariant)
