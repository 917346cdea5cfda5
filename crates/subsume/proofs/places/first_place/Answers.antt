use Rattle.std.proofs.Common.{sym, refl, arith}
use Rattle.term.specs.Coding.{word_at}
use Rattle.subsume.proofs.FirstPlaces.{first-place}
use Rattle.subsume.proofs.places.first_place.Goals as goal

pub returns-then-stands_at-clause-value : goal.returns-then-stands_at-clause-value
returns-then-stands_at-clause-value c =
    let w = c.args.word in
    let same = c.stands_at.ensures.0 c.if-stands_at.true in
    let inside = w.inside in
    sym (first-place w.nodes.now (word_at w.nodes.now w.start) c.loop-p.p (omega arith) (sym same) c.loop-p.invariant)

pub returns-clause-value : goal.returns-clause-value
returns-clause-value c =
    let w = c.args.word in
    sym (first-place w.nodes.now (word_at w.nodes.now w.start) w.start w.inside refl (λ q h. c.loop-p.invariant q (omega arith)))
