use Rattle.std.proofs.Common.{◌∙◌, true, false, refl}
use Rattle.clauses.specs.Clauses.{literals_at}
use Rattle.subsume.proofs.Retracting.{spares-then}
use Rattle.subsume.proofs.table.Table.look_out.Goals as goal

pub returns-then-not-look_from-clause-spares : goal.returns-then-not-look_from-clause-spares
returns-then-not-look_from-clause-spares g c =
    let t = c.args.self.now.targets in
    spares-then c.args.kept.now.words c.args.gone.now.words c.loop.gone.words c.look_from.new.gone.words (literals_at t.nodes.now t.starts.now) c.look_from.result false c.if-not-look_from.true c.loop.invariant.spares c.look_from.ensures.spares

pub loop-preserved : goal.loop-preserved
loop-preserved g c =
    let t = c.args.self.now.targets in
    record {
      more = λ j b. c.look_from.ensures.more j (c.loop.invariant.more j b);
      apart = λ j b. c.look_from.ensures.apart j b ∙ c.loop.invariant.apart j b;
      spares = spares-then c.args.kept.now.words c.args.gone.now.words c.loop.gone.words c.look_from.new.gone.words (literals_at t.nodes.now t.starts.now) c.look_from.result true c.if-not-look_from.false c.loop.invariant.spares c.look_from.ensures.spares;
    }

pub returns-clause-spares : goal.returns-clause-spares
returns-clause-spares g c =
    let t = c.args.self.now.targets in
    let kept = c.args.kept.now.words in
    spares-then kept c.args.gone.now.words c.loop.gone.words c.loop.gone.words (literals_at t.nodes.now t.starts.now) c.each_has_candidate.result c.each_has_candidate.result refl c.loop.invariant.spares (c.each_has_candidate.ensures kept)
