use Rattle.std.proofs.Common.{inr, ◌≡◌, ℕ, get_or, ◌∙◌, sym, subst, ⊎_elim, arith}
use Rattle.std.proofs.lemmas.Bool.{cases_eq}
use Rattle.subsume.specs.Bits.{bit_at}
use Rattle.subsume.proofs.Marking.{half-on, rest-less, shows-more}
use Rattle.subsume.proofs.prune.mark_word.Goals as goal

pub loop-rest-preserved-then-label : goal.loop-rest-preserved-then-label
loop-rest-preserved-then-label g c =
    let marks = c.loop-rest.marks in
    let after = c.include.new.self in
    let p = c.part-k in
    let label = get_or c.args.labels.now p.result.0 0 in
    let more : (l : ℕ) → bit_at marks.words l ≡ 1 → bit_at after.words l ≡ 1 = λ l b. ⊎_elim
    (λ (e : l ≡ label). subst (λ (x : ℕ). bit_at after.words x ≡ 1) (sym e) c.include.ensures.here)
    (λ n. c.include.ensures.others l n ∙ b)
    (cases_eq l label) in
    record {
      here = half-on c.args.labels.now c.args.word c.loop-rest.rest p.result.0 p.result.1 marks.words after.words p.ensures
          (shows-more marks.words after.words (after.sized ∙ sym marks.sized) more) (λ _. c.include.ensures.here) c.loop-rest.invariant.here;
      others = λ l b. more l (c.loop-rest.invariant.others l b);
      only = λ l b. ⊎_elim
          (λ (e : l ≡ label). inr (p.result.0, p.ensures.inside, c.if-k-labels.false, c.loop-rest.invariant.rest p.result.0 p.ensures.here, sym e))
          (λ n. c.loop-rest.invariant.only l (sym (c.include.ensures.others l n) ∙ b))
          (cases_eq l label);
      rest = rest-less c.args.word c.loop-rest.rest p.result.0 p.result.1 p.ensures c.loop-rest.invariant.rest;
    }

pub loop-rest-preserved : goal.loop-rest-preserved
loop-rest-preserved g c =
    let marks = c.loop-rest.marks in
    let p = c.part-k in
    record {
      here = half-on c.args.labels.now c.args.word c.loop-rest.rest p.result.0 p.result.1 marks.words marks.words p.ensures (λ l s. s)
          (λ h. absurd (omega (arith, marks.sized, h, c.if-label.false)))
          c.loop-rest.invariant.here;
      others = c.loop-rest.invariant.others;
      only = c.loop-rest.invariant.only;
      rest = rest-less c.args.word c.loop-rest.rest p.result.0 p.result.1 p.ensures c.loop-rest.invariant.rest;
    }
