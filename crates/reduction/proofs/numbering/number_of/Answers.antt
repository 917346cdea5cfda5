use Rattle.std.proofs.Common.{sym, ◌∙◌}
use Rattle.bounded.specs.Elems.{elems}
use Rattle.bounded.proofs.Rooms.{pushed_room}
use Rattle.reduction.proofs.Ranks.{found-some, found-none}
use Rattle.reduction.proofs.numbering.number_of.Goals as goal

pub returns-in-Some-clause-number : goal.returns-in-Some-clause-number
returns-in-Some-clause-number c =
    (found-some (elems c.args.seen.now) c.as_slice.result.now c.args.x c.as_slice.ensures.value c.in-Some.k (sym c.in-Some.is ∙ c.place_of.ensures)).0

pub returns-in-Some-clause-seen : goal.returns-in-Some-clause-seen
returns-in-Some-clause-seen c =
    (found-some (elems c.args.seen.now) c.as_slice.result.now c.args.x c.as_slice.ensures.value c.in-Some.k (sym c.in-Some.is ∙ c.place_of.ensures)).1

pub returns-clause-number : goal.returns-clause-number
returns-clause-number c =
    c.len-count.ensures.value
    ∙ sym (found-none (elems c.args.seen.now) c.as_slice.result.now c.args.x c.as_slice.ensures.value (sym c.in_default.is ∙ c.place_of.ensures)).0

pub returns-clause-seen : goal.returns-clause-seen
returns-clause-seen c =
    pushed_room 256 c.args.x (elems c.args.seen.now) c.push.result (elems c.push.new.self) c.push.ensures c.requires
    ∙ sym (found-none (elems c.args.seen.now) c.as_slice.result.now c.args.x c.as_slice.ensures.value (sym c.in_default.is ∙ c.place_of.ensures)).1
