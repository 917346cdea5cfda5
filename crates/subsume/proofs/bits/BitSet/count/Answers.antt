use Rattle.std.proofs.Common.{arith, rules, tests}
use Rattle.std.proofs.lemmas.Iterator.{YieldsList-from_slice}
use Rattle.std.proofs.lemmas.Iterator.Adapters.{fits_from_length, at_most_from_yields_List}
use Rattle.subsume.proofs.bits.BitSet.count.Goals as goal

pub sum-requires-clause-fits : goal.sum-requires-clause-fits
sum-requires-clause-fits g c =
    let few = c.args.self.now.few in
    let long = c.args.self.now.sized in
    fits_from_length _ _ 1024 _ (at_most_from_yields_List (YieldsList-from_slice c.args.self.now.words cc) (omega arith)) c.map.ensures.closure (omega arith) (λ x r q k. search (rules, tests))
