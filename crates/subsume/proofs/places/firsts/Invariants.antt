use Rattle.std.proofs.Common.{◌≡◌, length}
use Rattle.subsume.proofs.FirstPlaces.{Seen}
use Rattle.subsume.proofs.places.firsts.Given as goal

abbrev pub invariant-loop-q : goal.invariant-loop-q
invariant-loop-q g l = Seen g.row.P l.targets.nodes.now l.q l.places l.seen × (length l.places ≡ g.row.P) × (length l.seen ≡ g.row.P)
