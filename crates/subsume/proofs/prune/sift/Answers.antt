use Rattle.std.proofs.Common.{◌*◌, arith, rules}
use Rattle.subsume.proofs.Columns.{whole-part}
use Rattle.subsume.proofs.Marking.{sifted-word, part-from}
use Rattle.subsume.proofs.prune.sift.Goals as goal

pub sift_part-requires : goal.sift_part-requires
sift_part-requires g c =
    let labels = c.args.labels.now in
    (search rules, (c.requires.few.1, rw (part-from labels (64 * c.loop-w.w)) (whole-part labels c.loop-w.w (omega arith) _ c.requires.column)))

pub loop-w-preserved : goal.loop-w-preserved
loop-w-preserved g c =
    let labels = c.args.labels.now in
    let part = part-from labels (64 * c.loop-w.w) in
    let word = c.sift_part in
    sifted-word c.loop-w.left.words labels c.loop-w.w c.args.left.now.words word.result c.args.marks.now.words (omega (arith, c.loop-w.left.sized)) c.loop-w.invariant
    (rw part at word.ensures.kept) word.ensures.fewer (rw part at word.ensures.marked) (rw part at word.ensures.outside)
