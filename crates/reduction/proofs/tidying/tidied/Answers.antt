use Rattle.std.proofs.Common.{length}
use Rattle.term.proofs.Matchings.{below_more}
use Rattle.reduction.proofs.tidying.tidied.Goals as goal

pub tidied_in-requires-clause-variables : goal.tidied_in-requires-clause-variables
tidied_in-requires-clause-variables c = let N = c.args.clause.nodes.now in below_more (length N) 64 N c.if-clause-le64.true c.requires.variables

pub tidied_in-requires-then-clause-le256-clause-variables : goal.tidied_in-requires-then-clause-le256-clause-variables
tidied_in-requires-then-clause-le256-clause-variables c = let N = c.args.clause.nodes.now in below_more (length N) 256 N c.if-clause-le256.true c.requires.variables

pub tidied_in-requires-then-clause-le1024-clause-variables : goal.tidied_in-requires-then-clause-le1024-clause-variables
tidied_in-requires-then-clause-le1024-clause-variables c = let N = c.args.clause.nodes.now in below_more (length N) 1024 N c.if-clause-le1024.true c.requires.variables

pub tidied_in-requires-else-clause-le1024-clause-variables : goal.tidied_in-requires-else-clause-le1024-clause-variables
tidied_in-requires-else-clause-le1024-clause-variables c = let N = c.args.clause.nodes.now in below_more (length N) 4096 N c.requires.small c.requires.variables

pub tidied_in-requires-then-clause-le512-clause-variables : goal.tidied_in-requires-then-clause-le512-clause-variables
tidied_in-requires-then-clause-le512-clause-variables c = let N = c.args.clause.nodes.now in below_more (length N) 512 N c.if-clause-le512.true c.requires.variables

pub tidied_in-requires-then-clause-le64-2-clause-variables : goal.tidied_in-requires-then-clause-le64-2-clause-variables
tidied_in-requires-then-clause-le64-2-clause-variables c = let N = c.args.clause.nodes.now in below_more (length N) 64 N c.if-clause-le64-2.true c.requires.variables
