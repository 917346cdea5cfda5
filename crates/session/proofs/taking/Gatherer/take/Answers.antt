use Rattle.session.proofs.Takings.{begins}
use Rattle.session.proofs.taking.Gatherer.take.Goals as goal

pub returns-in-None : goal.returns-in-None
returns-in-None c = begins c.args.self.now.class c.in-None.is c.args.record c.begin.result c.begin.ensures.begun
