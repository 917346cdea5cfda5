use Rattle.std.proofs.Common.{Option, sym, subst}
use Rattle.class.specs.declared.classes.Class.{Class}
use Rattle.record.specs.declared.clause.Record.{Record}
use Rattle.session.proofs.Underway.{Underway, underway, line-fits, underway-more, fault-fits, lined-fault, lined}
use Rattle.session.proofs.whole.put_lines.Goals as goal

pub loop-at-init : goal.loop-at-init
loop-at-init c =
    subst (λ (o : Option (Class Record)). Underway c.args.input.now 0 o c.args.out.now 0 c.args.out.now) (sym c.new-gatherer.ensures) (underway c.args.input.now c.args.out.now c.requires.short)

pub put-to-requires : goal.put-to-requires
put-to-requires c =
    line-fits c.args.input.now c.loop-at.at c.loop-at.gatherer.class c.args.out.now c.loop-at.to c.loop-at.out c.loop-at.invariant c.requires.short
    c.loop-at-test.true c.in-Ok.start c.in-Ok.end (sym c.in-Ok.ensures.value) c.turn-line.result c.turn-line.new.self.class c.turn-line.ensures c.requires.room

pub put-to-requires-in-Err : goal.put-to-requires-in-Err
put-to-requires-in-Err c =
    fault-fits c.args.input.now c.loop-at.at c.loop-at.gatherer.class c.args.out.now c.loop-at.to c.loop-at.out c.loop-at.invariant c.requires.short
    c.loop-at-test.true c.in-Err.fault (sym c.in-Err.ensures.value) c.question.result c.byte.result c.question.ensures c.byte.ensures c.requires.room

pub loop-at-preserved : goal.loop-at-preserved
loop-at-preserved c =
    underway-more c.args.input.now c.loop-at.at c.loop-at.gatherer.class c.args.out.now c.loop-at.to c.loop-at.out c.loop-at.invariant c.requires.short
    c.loop-at-test.true c.in-Ok.start c.in-Ok.end (sym c.in-Ok.ensures.value) c.turn-line.result c.turn-line.new.self.class c.turn-line.ensures _ _ c.put-to.ensures

pub returns-after-loop-at : goal.returns-after-loop-at
returns-after-loop-at c =
    lined c.args.input.now c.loop-at.at c.loop-at.gatherer.class c.args.out.now c.loop-at.to c.loop-at.out c.loop-at.invariant c.requires.short c.loop-at-test.false

pub returns-in-Err : goal.returns-in-Err
returns-in-Err c =
    lined-fault c.args.input.now c.loop-at.at c.loop-at.gatherer.class c.args.out.now c.loop-at.to c.loop-at.out c.loop-at.invariant c.requires.short
    c.loop-at-test.true c.in-Err.fault (sym c.in-Err.ensures.value) c.question.result c.byte.result c.question.ensures c.byte.ensures _ _ c.put-to-in-Err.ensures
