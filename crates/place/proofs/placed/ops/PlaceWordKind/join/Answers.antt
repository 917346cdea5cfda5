use Rattle.std.proofs.Common.{[], length, refl, ap, arith, lit<, lit≤}
use Rattle.bounded.specs.Elems.{elems}
use Rattle.term.specs.Joins.{join}
use Rattle.term.proofs.Codings.{meant}
use Rattle.term.proofs.Pairings.{inside-none}
use Rattle.place.specs.Places.{meaning}
use Rattle.place.specs.Held.{held, few, join-lawful, join-is-least, join-nodes}
use Rattle.place.proofs.placed.ops.PlaceWordKind.join.Goals as goal

pub join_word-requires : goal.join_word-requires
join_word-requires c =
    let p = c.args.self.now in
    let e = ap length c.word.ensures.nodes in
    let no = ap length c.new-nodes.ensures in
    let np = ap length c.new-pairs.ensures in (
      lit< tt,
      (
        lit< tt,
        (
          inside-none c.word.result.nodes.now c.word-2.result.nodes.now (elems c.new-pairs.result) c.new-pairs.ensures,
          (omega (arith, e, few p), (omega (arith, e, few p), lit≤ tt)),
        ),
      ),
    )

pub invariant_of-self : goal.invariant_of-self
invariant_of-self c =
    let p = c.args.self.now in
    let q = c.args.other.now in
    let j = rw (c.word.ensures.start, c.word-2.ensures.start) at c.join_word.ensures in
    let e = join-nodes _ _ (elems p.nodes) (elems q.nodes) _ _ _ _ _ _ c.word.ensures.nodes c.word-2.ensures.nodes c.new-nodes.ensures c.new-pairs.ensures j in
    record { one = join-lawful (meaning p) (meaning q) (elems c.join_word.new.out) (held p).narrow e }

pub returns : goal.returns
returns c =
    let p = c.args.self.now in
    let q = c.args.other.now in
    let j = rw (c.word.ensures.start, c.word-2.ensures.start) at c.join_word.ensures in
    let e = join-nodes _ _ (elems p.nodes) (elems q.nodes) _ _ _ _ _ _ c.word.ensures.nodes c.word-2.ensures.nodes c.new-nodes.ensures c.new-pairs.ensures j in
    let value = meant (join (meaning p) (meaning q) []).0 (elems c.join_word.new.out) e in
    record { joined = (join-is-least p q _ value, tt, value); passes = refl; value = value }
