use Rattle.std.proofs.Common.{◌+◌, length, sym, subst, arith}
use Rattle.bounded.specs.Elems.{elems}
use Rattle.term.specs.Matched.{Below}
use Rattle.term.proofs.Matchings.{below_more, lawful-below, none-placed}
use Rattle.place.specs.Held.{few, match-decides}
use Rattle.place.proofs.placed.ops.PlaceWordKind.covers.Goals as goal

pub match_word-requires : goal.match_word-requires
match_word-requires c =
    let p = c.args.self.now in
    record {
      below = subst (Below 64) (sym c.word.ensures.nodes) (below_more (0 + length (elems p.nodes)) 64 (elems p.nodes) (omega (arith, few p)) (lawful-below (elems p.nodes) 1 0 p.one));
      placed = none-placed c.word-2.result.nodes.now 64;
    }

pub returns : goal.returns
returns c =
    let m = rw (c.word.ensures.nodes, c.word.ensures.start, c.word-2.ensures.nodes, c.word-2.ensures.start) at c.match_word.ensures in
    match-decides (elems c.args.self.now.nodes) (elems c.args.other.now.nodes) 64 c.match_word.result c.match_word.new.bound c.is_some.result m c.is_some.ensures
