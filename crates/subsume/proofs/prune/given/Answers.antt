use Rattle.std.proofs.Common.{◌*◌, ◌∙◌, sym}
use Rattle.subsume.proofs.Marking.{given-word, shows-more, part-from}
use Rattle.subsume.proofs.prune.given.Goals as goal

pub loop-w-preserved : goal.loop-w-preserved
loop-w-preserved g c =
    let marks = c.loop-w.marks in
    let after = c.mark_word.new.marks in
    let told = c.mark_word.ensures in
    given-word c.args.left.now.words c.args.labels.now c.loop-w.w marks.words after.words c.loop-w.invariant (shows-more marks.words after.words (after.sized ∙ sym marks.sized) told.others)
    (rw (part-from c.args.labels.now (64 * c.loop-w.w)) at told.here) (rw (part-from c.args.labels.now (64 * c.loop-w.w)) at told.only)
