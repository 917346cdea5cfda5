use Rattle.std.proofs.Common.{◌∙◌, true, false}
use Rattle.clauses.specs.Clauses.{literals_at}
use Rattle.subsume.proofs.Retracting.{spares-then}
use Rattle.subsume.proofs.table.Table.look_from.Goals as goal

pub returns-then-not-look_at-clause-spares : goal.returns-then-not-look_at-clause-spares
returns-then-not-look_at-clause-spares g c =
    let t = c.args.self.now.targets in
    spares-then c.args.kept.now.words c.args.gone.now.words c.loop-slot.gone.words c.look_at.new.gone.words (literals_at t.nodes.now t.starts.now) c.look_at.result false c.if-not-look_at.true c.loop-slot.invariant.spares c.look_at.ensures.spares

pub loop-slot-preserved : goal.loop-slot-preserved
loop-slot-preserved g c =
    let t = c.args.self.now.targets in
    record {
      more = λ j b. c.look_at.ensures.more j (c.loop-slot.invariant.more j b);
      apart = λ j b. c.look_at.ensures.apart j b ∙ c.loop-slot.invariant.apart j b;
      spares = spares-then c.args.kept.now.words c.args.gone.now.words c.loop-slot.gone.words c.look_at.new.gone.words (literals_at t.nodes.now t.starts.now) c.look_at.result true c.if-not-look_at.false c.loop-slot.invariant.spares c.look_at.ensures.spares;
    }
