use Rattle.std.proofs.Common.{[], refl, ◌∙◌}
use Rattle.subsume.proofs.Firsts.{first-of_all}
use Rattle.subsume.proofs.view.View.first_by.Goals as goal

pub returns : goal.returns
returns g c =
    let t = c.link-table.result in
    let first = first-of_all t.literals.nodes.now t.literals.starts.now t.targets.nodes.now t.targets.starts.now [] c.first.result refl c.first.ensures in
    rw (c.link-table.ensures.0, c.link-table.ensures.1 ∙ c.new-targets.ensures) at first
