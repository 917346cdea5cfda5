use Rattle.bounded.specs.Elems.{elems}
use Rattle.subsume.proofs.Links.{linked-pushed}
use Rattle.subsume.proofs.slot.Slots.add_slot.Goals as goal

pub returns-in_default-clause-linked : goal.returns-in_default-clause-linked
returns-in_default-clause-linked g c N S M T linked own inside named =
    linked-pushed N S M T (elems c.args.self.now.fronts) g.row.K (elems c.args.self.now.rows) _ _ c.push-added.result c.push-added.ensures linked own inside named

pub returns-else-is_ok-clause-linked : goal.returns-else-is_ok-clause-linked
returns-else-is_ok-clause-linked g c N S M T linked own inside named =
    linked-pushed N S M T (elems c.args.self.now.fronts) g.row.K (elems c.args.self.now.rows) _ _ c.push-added.result c.push-added.ensures linked own inside named

pub returns-in-Some-clause-linked : goal.returns-in-Some-clause-linked
returns-in-Some-clause-linked g c N S M T linked own inside named =
    linked-pushed N S M T (elems c.args.self.now.fronts) g.row.K (elems c.args.self.now.rows) _ _ c.push-added.result c.push-added.ensures linked own inside named
