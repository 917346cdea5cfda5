use Rattle.std.proofs.Common.{◌<◌, length, sym, refl, ap, ◌∙◌, subst, arith}
use Rattle.std.proofs.lemmas.List.{length_push}
use Rattle.std.proofs.lemmas.List.Elements.{All-push}
use Rattle.bounded.specs.Elems.{elems}
use Rattle.bounded.proofs.Rooms.{pushed_room}
use Rattle.term.specs.declared.join.Pair.{Pair}
use Rattle.term.specs.Coding.{word_at}
use Rattle.term.specs.Joined.{mean, Inside}
use Rattle.term.proofs.Pairings.{none, found, missing}
use Rattle.term.proofs.join.variable_of.Goals as goal

pub returns-then-is_same-2 : goal.returns-then-is_same-2
returns-then-is_same-2 g c =
    let a = c.args.a.nodes.now in
    let b = c.args.b.nodes.now in
    let all = c.as_slice-pair-items.result.now in
    let e = c.as_slice-pair-items.ensures.value in
    let f = found a b (word_at a c.args.a.start) (word_at b c.args.b.start) all c.loop-k.k none (omega arith) c.loop-k.invariant (
      rw (c.at.ensures.nodes, c.at.ensures.start) at (c.is_same.ensures.0 c.if-is_same.true),
      rw (c.at-then-is_same.ensures.nodes, c.at-then-is_same.ensures.start) at (c.is_same-then-is_same.ensures.0 c.if-is_same-2.true),
    ) in
    record { number = rw (sym e) (sym f.0); table = rw (sym e) (sym f.1); known = c.requires.known; size = omega arith }

pub returns : goal.returns
returns g c =
    let a = c.args.a.nodes.now in
    let b = c.args.b.nodes.now in
    let all = c.as_slice-pair-items.result.now in
    let old = elems c.args.pairs.now in
    let e = c.as_slice-pair-items.ensures.value in
    let p : Pair = record { left = c.args.a.start; right = c.args.b.start } in
    let f = missing a b (word_at a p.left) (word_at b p.right) all none p (refl, refl) (λ m h. c.loop-k.invariant m (omega arith)) in
    let new = pushed_room g.row.N p old c.push.result (elems c.push.new.self) c.push.ensures c.requires.room in
    record {
      number = rw (sym e) (c.len-count.ensures.value ∙ sym (ap length e) ∙ sym f.0);
      table = ap (mean a b) new ∙ rw (sym e) (sym f.1);
      known = subst (Inside a b) (sym new) (All-push (λ (q : Pair). (q.left < length a) × (q.right < length b)) old p c.requires.known (c.args.a.inside, c.args.b.inside));
      size = omega (arith, ap length new, length_push old p);
    }
