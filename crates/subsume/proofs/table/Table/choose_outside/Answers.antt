use Rattle.subsume.proofs.Avoiding.{chosen-outside}
use Rattle.subsume.proofs.table.Table.choose_outside.Goals as goal

pub returns : goal.returns
returns g c kept before wider spared apart =
    let t = c.args.self.now in
    chosen-outside t.literals.nodes.now t.literals.starts.now t.targets.nodes.now t.targets.starts.now c.args.gone.now.words c.strike_out.new.state.sets c.strike_out.new.state.picks c.search.result
    c.requires.same kept (c.strike_out.ensures.spared kept before wider (rw c.copied-state.ensures.sets spared)) apart c.strike_out.ensures.clear c.search.ensures.found c.search.ensures.clear c.search.ensures.none
