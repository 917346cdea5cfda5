use Rattle.std.proofs.Common.{ℕ, ◌/◌, take, sym, ap, ◌∙◌}
use Rattle.std.proofs.lemmas.List.{drop_all, take_min}
use Rattle.record.specs.Marks.{mixed_with}
use Rattle.record.proofs.mark.mark_of.Goals as goal

pub returns-clause-value : goal.returns-clause-value
returns-clause-value c =
    let form = c.args.form.now in
    let mixed = c.loop-byte.mixed in
    let all = sym (ap (mixed_with mixed) (drop_all c.loop-byte.byte-index (take c.min.result form) c.loop-byte-test.false)) ∙ c.loop-byte.invariant.1 in
    let front = ap (λ (n : ℕ). take n form) c.min.ensures ∙ take_min 32 form in
    ap (λ (n : ℕ). n / 256) (all ∙ ap (mixed_with 0) front)
