use mir.Val.{bool_byte}
use Rattle.std.proofs.Common.{◌≡◌, ℕ, Bool, true, false, not, ◌∙◌, ap, refl, arith}
use Rattle.std.specs.Int.{bit_at as bit}
use Rattle.std.proofs.lemmas.Bool.{both_ways}
use Rattle.subsume.proofs.Sets.{cleared, cleared-here, cleared-others, cleared-none}
use Rattle.subsume.proofs.Marking.{Sieved, sieved-stays, sieved-goes}
use Rattle.subsume.proofs.prune.sift_word.Goals as goal

pub loop-rest-preserved-then-label : goal.loop-rest-preserved-then-label
loop-rest-preserved-then-label g c =
    let labels = c.args.labels.now in
    let marks = c.args.marks.now in
    let kept = c.loop-rest.kept in
    let rest = c.loop-rest.rest in
    let k = c.part-k.result.0 in
    let others = c.part-k.result.1 in
    let p = c.part-k.ensures in
    let r = c.loop-rest.invariant in
    let fits = c.loop-rest.auto.kept-fits in
    elim c.test.result as (λ (t : Bool). c.test.result ≡ t → Sieved labels c.args.word marks.words others (cleared kept k c.from.result)) [
      | true ↦ λ e.
          let none : c.from.result ≡ 0 = c.from.ensures ∙ ap (λ (x : Bool). bool_byte (not x)) e in
          sieved-stays labels c.args.word marks.words rest k others kept p c.if-k-labels.false r (cleared kept k c.from.result) (λ _. c.test.ensures.0 e)
          (λ l. ap (λ (b : ℕ). bit (cleared kept k b) l) none ∙ cleared-none kept k p.inside (omega (arith, fits)) l)
      | false ↦ λ e.
          let one : c.from.result ≡ 1 = c.from.ensures ∙ ap (λ (x : Bool). bool_byte (not x)) e in
          sieved-goes labels c.args.word marks.words rest k others kept p c.if-k-labels.false r (cleared kept k c.from.result)
          (λ s. both_ways _ e (c.test.ensures.1 (s (omega (arith, marks.sized, c.if-label.true)))))
          (ap (λ (b : ℕ). bit (cleared kept k b) k) one ∙ cleared-here kept k p.inside (omega (arith, fits)))
          (λ l n. ap (λ (b : ℕ). bit (cleared kept k b) l) one ∙ cleared-others kept k p.inside (omega (arith, fits)) l n)
    ] refl
