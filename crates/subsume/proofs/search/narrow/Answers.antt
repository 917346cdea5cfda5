use Rattle.std.proofs.Common.{sym, ◌∙◌, arith}
use Rattle.std.proofs.lemmas.Bool.{both_ways}
use Rattle.subsume.proofs.Sets.{absent}
use Rattle.subsume.proofs.search.narrow.Goals as goal

pub returns-else-kept : goal.returns-else-kept
returns-else-kept c = record {
  here = c.new.ensures c.args.j ∙ sym (absent c.args.left.now.words c.args.j (λ e. both_ways _ c.if-kept.false (c.test-kept.ensures.1 e)));
  only = λ k b. absurd (omega (arith, b, c.new.ensures k));
}
