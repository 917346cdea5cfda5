use Rattle.generaliser.proofs.Whole.{whole}
use Rattle.generaliser.proofs.begin.Goals as goal

pub returns-clause-law : goal.returns-clause-law
returns-clause-law c = whole c.args.first c.begin.result c.begin.ensures.begun
