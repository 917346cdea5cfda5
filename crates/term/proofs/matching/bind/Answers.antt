use Rattle.term.proofs.Matchings.{bind-new, bind-asked, placed_at}
use Rattle.term.proofs.matching.bind.Goals as goal

pub at-requires : goal.at-requires
at-requires c = placed_at c.args.target.nodes.now c.args.bound.now c.args.x c.in-Some.start c.requires.placed c.in-Some.is

pub returns-in-Some : goal.returns-in-Some
returns-in-Some c =
    bind-asked c.args.target.nodes.now c.args.bound.now c.args.x c.args.target.start c.in-Some.start c.is_same.result c.requires.placed c.in-Some.is
    (rw (c.at.ensures.nodes, c.at.ensures.start) at c.is_same.ensures)

pub returns-in-None : goal.returns-in-None
returns-in-None c = bind-new c.args.target.nodes.now c.args.bound.now c.args.x c.args.target.start c.args.target.inside c.requires.placed c.requires.known c.in-None.is
