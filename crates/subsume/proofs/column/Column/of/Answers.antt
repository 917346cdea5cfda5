use Rattle.std.proofs.Common.{ℕ, ◌≡◌, ◌∙◌, length, get_or, subst, arith}
use Rattle.std.proofs.lemmas.List.{length-set, length-replicate}
use Rattle.subsume.specs.Choices.{Given}
use Rattle.subsume.proofs.Columns.{Filled, filled-none, filled-more, supported, one-word}
use Rattle.subsume.proofs.column.Column.of.Goals as goal

pub loop-j-init : goal.loop-j-init
loop-j-init c = record { long = length-replicate {A = ℕ} 64 0; filled = filled-none c.args.labels.now }

pub loop-j-preserved : goal.loop-j-preserved
loop-j-preserved c =
    let before = c.loop-j.invariant in
    let small = c.if-label-ge64.false in
    record {
      long = length-set c.loop-j.supports (get_or c.args.labels.now c.loop-j.j 0) c.with.result ∙ before.long;
      filled = filled-more c.args.labels.now c.loop-j.j c.loop-j.supports c.loop-j.others (omega arith) before.filled c.with.result c.without-others.result (omega (arith, before.long, small)) small
          c.with.ensures.here c.with.ensures.others c.without-others.ensures.here c.without-others.ensures.others;
    }

pub invariant_of-result : goal.invariant_of-result
invariant_of-result c = record { sized = c.loop-j.invariant.long }

pub returns : goal.returns
returns c =
    let met = c.args.met.now.words in
    let labels = c.args.labels.now in
    let words = c.given-given.result.words in
    let end : c.loop-j.j ≡ length labels = omega arith in
    supported met labels c.loop-j.supports c.loop-j.others (get_or words 0 0) _ (omega arith)
    (subst (λ (j : ℕ). Filled labels j c.loop-j.supports c.loop-j.others) end c.loop-j.invariant.filled)
    (subst (Given met labels (length labels)) (one-word words c.given-given.result.sized) c.given-given.ensures)
