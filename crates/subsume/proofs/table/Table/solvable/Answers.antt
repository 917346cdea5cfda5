use Rattle.subsume.proofs.Searching.{found}
use Rattle.subsume.proofs.table.Table.solvable.Goals as goal

pub returns-clause-found : goal.returns-clause-found
returns-clause-found g c =
    let z = c.args.self.now in
    found z.literals.nodes.now z.literals.starts.now z.targets.nodes.now z.targets.starts.now c.search.result c.is_some.result c.search.ensures.found c.is_some.ensures
