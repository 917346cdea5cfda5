use Rattle.std.proofs.Common.{ℕ, ◌≡◌, subst, arith}
use Rattle.subsume.proofs.Columns.{Brought, brought-none, brought-more, brought-sifts}
use Rattle.subsume.proofs.column.Column.sift.Goals as goal

pub loop-rest-init : goal.loop-rest-init
loop-rest-init g c = brought-none c.args.self.now c.args.marks.now.words

pub loop-rest-preserved : goal.loop-rest-preserved
loop-rest-preserved g c =
    brought-more c.args.self.now c.args.marks.now.words c.loop-rest.rest c.loop-rest.kept c.part-label.result.0 c.part-label.result.1 c.either-kept.result c.part-label.ensures (rw c.from.ensures at c.either-kept.ensures) c.loop-rest.invariant

pub returns : goal.returns
returns g c met labels s =
    let marks = c.args.marks.now.words in
    let end : c.loop-rest.rest ≡ 0 = omega arith in
    brought-sifts c.args.self.now marks met labels c.args.word c.loop-rest.kept c.both.result s (omega (arith, c.requires, c.args.marks.now.sized)) (omega arith) (omega arith)
    (subst (λ (r : ℕ). Brought c.args.self.now marks r c.loop-rest.kept) end c.loop-rest.invariant) c.both.ensures
