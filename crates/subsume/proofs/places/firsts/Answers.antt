use Rattle.std.proofs.Common.{ℕ, ◌%◌, ◌<◌, length, get_or, ap, mod-lt, ◌∙◌, arith}
use Rattle.std.proofs.lemmas.List.{length-set}
use Rattle.term.specs.Coding.{word_at}
use Rattle.subsume.specs.Meeting.{hash_of}
use Rattle.subsume.proofs.FirstPlaces.{seen-new, seen-same, seen-other}
use Rattle.subsume.proofs.places.firsts.Goals as goal
use Rattle.subsume.proofs.places.firsts.Goals.{then-p-q, else-p-q+then-stands_at, else-p-q+else-stands_at}

pub loop-q-preserved : goal.loop-q-preserved
loop-q-preserved g c =
    let nodes = c.args.targets.nodes.now in
    let q = c.loop-q.q in
    let places = c.loop-q.places in
    let seen = c.loop-q.seen in
    let kept = c.loop-q.invariant in
    let room : q < length places = omega (arith, kept.1, c.requires.few, c.loop-q-test.true) in
    let P = g.row.P in
    let hash = ap (λ (n : ℕ). n % P) c.hash.ensures.value in
    elim c.if-p-q.branch [
      | then-p-q w ↦ (
        rw (w.places-is, w.seen-is, hash) (seen-new P nodes q places seen c.loop-q-test.true room kept.0 (omega (arith, kept.2, mod-lt (hash_of (word_at nodes q)) {m = P} (omega (arith, c.requires.few, c.loop-q-test.true)))) (rw hash at w.if-p-q.true)),
        ap length w.places-is ∙ length-set places q q ∙ kept.1,
        ap length w.seen-is ∙ length-set seen (c.hash.result % P) q ∙ kept.2,
      )
      | else-p-q+then-stands_at w ↦ (
        rw (w.places-is, w.seen-is) (seen-same P nodes q places seen c.loop-q-test.true room kept.0 _ (ap (λ (h : ℕ). get_or seen h 0) hash) w.if-p-q.false (w.stands_at.ensures.0 w.if-stands_at.true)),
        ap length w.places-is ∙ length-set places q _ ∙ kept.1,
        ap length w.seen-is ∙ kept.2,
      )
      | else-p-q+else-stands_at w ↦ (
        rw (w.places-is, w.seen-is) (seen-other P nodes q places seen c.loop-q-test.true room kept.0 _ w.first_place.ensures.value (rw hash at w.if-p-q.false)),
        ap length w.places-is ∙ length-set places q _ ∙ kept.1,
        ap length w.seen-is ∙ kept.2,
      )
    ]
