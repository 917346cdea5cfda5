use Rattle.std.proofs.Common.{Option, unwrap_or, ap, arith}
use Rattle.subsume.specs.Choices.{picked}
use Rattle.subsume.proofs.Choosing.{works-decides}
use Rattle.subsume.proofs.table.Table.works.Goals as goal

pub returns : goal.returns
returns g c =
    let t = c.args.self.now in
    works-decides t.literals.nodes.now t.literals.starts.now t.targets.nodes.now t.targets.starts.now c.args.choice.now (picked c.loop-i.picks) c.check.result c.requires.whole (λ i h. c.requires.inside i 0 (omega (arith, c.requires.whole)))
    (λ i h. ap (λ (o : Option _). unwrap_or o 0) (c.loop-i.invariant.1 i (omega (arith, c.requires.whole)))) c.check.ensures
