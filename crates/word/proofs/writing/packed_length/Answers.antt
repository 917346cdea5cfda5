use Rattle.std.proofs.Common.{◌≡◌, ◌≤◌, ◌^◌, length, sym, refl, subst, arith, rules}
use Rattle.std.specs.List.{sum_by}
use Rattle.std.proofs.lemmas.Iterator.{YieldsList-from_slice}
use Rattle.std.proofs.lemmas.Iterator.Adapters.{fits_from_length, at_most_from_yields_List, serves_from_places}
use Rattle.std.proofs.lemmas.List.Concat.{length-flat_map}
use Rattle.word.specs.Packed.{packed, packed_node, node_number}
use Rattle.word.proofs.writing.packed_length.Goals as goal

pub sum-requires-clause-can : goal.sum-requires-clause-can
sum-requires-clause-can c =
    (tt, serves_from_places (YieldsList-from_slice c.args.nodes.now cc) (λ x q r. refl) (λ x k h e. λ _ _ _ _ _ _. subst (λ n. node_number n ≤ 32767) (sym e) (c.requires k x.now h)))

pub sum-requires-clause-fits : goal.sum-requires-clause-fits
sum-requires-clause-fits c =
    let few : length c.args.nodes.now ≤ 2 ^ 61 = omega arith in
    fits_from_length _ _ (2 ^ 61) (2 ^ 64) (at_most_from_yields_List (YieldsList-from_slice c.args.nodes.now cc) few) c.map.ensures.closure (omega arith) (λ x r q k. search rules)

pub returns : goal.returns
unfolding packed
returns c =
    let all : c.sum.result ≡ sum_by (λ n. length (packed_node n)) c.args.nodes.now = search rules in
    omega (arith, all, length-flat_map packed_node c.args.nodes.now)
