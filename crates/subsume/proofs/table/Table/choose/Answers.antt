use Rattle.std.proofs.Common.{◌≡◌, ℕ, None, Some, Option, [], length, take, unwrap_or, refl, subst, arith, rules, tests}
use Rattle.std.proofs.lemmas.Grind.{common_steps}
use Rattle.std.proofs.lemmas.Iterator.{YieldsList-from_slice}
use Rattle.std.proofs.lemmas.Iterator.Consumers.{YieldsList-from_enumerate, YieldsList-from_filter, YieldsList-at, count_from_yields_List}
use Rattle.std.proofs.lemmas.List.{get_or-take, length-take-le}
use Rattle.subsume.proofs.Picking.{unmade, all_made, chosen_by}
use Rattle.subsume.proofs.table.Table.choose.Goals as goal

pub returns : goal.returns
returns g c =
    let picks = c.args.state.now.picks in
    let few = c.args.self.now.few in
    let m = c.len.result in
    chosen_by c.map.result (length c.args.self.now.literals.starts.now) picks
    (λ i e. grind (arith, common_steps))
    (λ i e. grind (arith, common_steps))
    (λ e k h.
    let none : c.min_by_key.result ≡ None = grind (arith, common_steps) in
    let road = YieldsList-from_filter _ unmade (YieldsList-at c.filter.ensures.source (YieldsList-from_enumerate (YieldsList-at c.enumerate.ensures.source (YieldsList-from_slice (take m picks) c.iter.ensures.rest)) c.enumerate.ensures.count)) c.filter.ensures.closure (λ x r q k. search (rules, tests)) in
    let ran = rw none at c.min_by_key.ensures.ran in
    let long = length-take-le m picks (omega (arith, c.args.state.now.sized, few.0)) in
    let made = all_made (take m picks) 0 k (count_from_yields_List _ 0 ([], ran, refl) road) (omega (arith, long)) in
    let same = get_or-take m picks k None (omega arith) in
    subst (λ (o : Option ℕ). o ≡ Some (unwrap_or o 0)) same made)
