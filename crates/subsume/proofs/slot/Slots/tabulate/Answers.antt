use Rattle.std.proofs.Common.{◌≡◌, ◌+◌, ◌++◌, ◌∷◌, [], List, Option, None, length, ◌∙◌, refl, sym, ap, subst, arith}
use Rattle.std.proofs.lemmas.List.{length_push}
use Rattle.bounded.specs.Elems.{elems}
use Rattle.bounded.proofs.Rooms.{pushed_room}
use Rattle.subsume.specs.declared.column.Column.{Column}
use Rattle.subsume.proofs.Columns.{Tabled, tabled-first, tabled-more, tabled-all}
use Rattle.subsume.proofs.slot.Slots.tabulate.Goals as goal
use Rattle.subsume.proofs.slot.Slots.tabulate.Goals.{After-push}
use Rattle.subsume.proofs.slot.Slots.tabulate.Given.{Over}

first : (g : Over) (c : After-push g) → elems c.push.new.self ≡ None ∷ []
first g c =
    let empty = c.truncate.ensures in
    pushed_room 8 None (elems c.truncate.new.self) c.push.result (elems c.push.new.self) c.push.ensures (omega (arith, ap length empty)) ∙ ap (λ (z : List (Option Column)). z ++ None ∷ []) empty

pub returns-then-len-saturating_mul-clause-columned : goal.returns-then-len-saturating_mul-clause-columned
returns-then-len-saturating_mul-clause-columned g c =
    let e = first g (goal.at.returns-then-len-saturating_mul-clause-columned g c).After-push in
    let fronts = elems c.args.self.now.fronts in
    tabled-all fronts c.args.n 1 (elems c.push.new.self) (ap length e) (tabled-first fronts c.args.n (elems c.push.new.self) e)

pub loop-r-init : goal.loop-r-init
loop-r-init g c =
    let e = first g (goal.at.loop-r-init g c).After-push in
    record { rows = refl; fronts = refl; long = ap length e; tabled = tabled-first (elems c.args.self.now.fronts) c.args.n (elems c.push.new.self) e }

pub loop-r-preserved : goal.loop-r-preserved
loop-r-preserved g c =
    let before = c.loop-r.invariant in
    let columns = elems c.loop-r.self.columns in
    let new = c.column_of-column.result in
    let pushed = pushed_room 8 new columns c.push-in-loop-r.result (elems c.push-in-loop-r.new.self) c.push-in-loop-r.ensures (omega (arith, before.long)) in
    record {
      rows = before.rows;
      fronts = before.fronts;
      long = ap length pushed ∙ length_push columns new ∙ ap (λ k. k + 1) before.long;
      tabled = subst (λ (z : List (Option Column)). Tabled (elems c.loop-r.self.fronts) c.args.n (c.loop-r.r + 1) z) (sym pushed)
          (tabled-more (elems c.loop-r.self.fronts) c.args.n c.loop-r.r columns before.long before.tabled new c.column_of-column.ensures);
    }

pub returns-clause-columned : goal.returns-clause-columned
returns-clause-columned g c = tabled-all (elems c.loop-r.self.fronts) c.args.n c.loop-r.r (elems c.loop-r.self.columns) c.loop-r.invariant.long c.loop-r.invariant.tabled
