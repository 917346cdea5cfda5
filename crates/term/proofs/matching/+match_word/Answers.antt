use Rattle.std.proofs.Common.{◌+◌, ◌-◌, length, arith}
use Rattle.std.proofs.lemmas.Bool.{both_ways}
use Rattle.term.specs.declared.node.Node.TheVariants.{Variable}
use Rattle.term.proofs.Walked.{walked-in}
use Rattle.term.proofs.Matchings.{below_at, match-variable, match-variable-never, match-never, going_on, going-first, going-last, going-stops}
use Rattle.term.proofs.matching.+match_word.Goals as goal

pub bind-requires : goal.bind-requires
bind-requires t c = record {
  placed = c.requires.placed;
  known = below_at (length c.args.bound.now) c.args.pattern.nodes.now c.args.pattern.start c.in-Variable.x (Variable 0) c.requires.below c.args.pattern.inside c.in-Variable.is;
}

pub returns-then-not-bind : goal.returns-then-not-bind
returns-then-not-bind t c =
    match-variable-never c.args.pattern c.args.target
    c.in-Variable.x c.args.bound.now c.bind.new.bound c.in-Variable.is c.if-not-bind.ensures

pub returns-in-Variable : goal.returns-in-Variable
returns-in-Variable t c =
    match-variable c.args.pattern c.args.target
    c.in-Variable.x c.end.result c.args.bound.now c.bind.new.bound c.in-Variable.is c.end.ensures c.if-not-bind.ensures

pub returns-then-not-fellows : goal.returns-then-not-fellows
returns-then-not-fellows t c =
    match-never c.args.pattern c.args.target
    c.args.bound.now c.args.bound.now c.in_default.not-Variable (λ h. both_ways _ c.if-not-fellows.true (c.fellows.ensures.1 h))

pub loop-init : goal.loop-init
loop-init t c =
    going-first c.args.pattern c.args.target
    (c.fellows.ensures.0 c.if-not-fellows.false) c.places-end.result c.places-end.ensures.value (c.places-end.result - 0) c.args.bound.now (omega arith) c.requires.placed

pub at-requires : goal.at-requires
at-requires t c = walked-in c.args.pattern.nodes.now c.places-end.result (c.places-end.result - c.loop.counter) c.loop.p (c.args.pattern.start + 1) (omega arith) c.loop.invariant.left

pub at-requires-in-loop : goal.at-requires-in-loop
at-requires-in-loop t c = walked-in c.args.target.nodes.now c.places-end.result (c.places-end.result - c.loop.counter) c.loop.q (c.args.target.start + 1) (omega arith) c.loop.invariant.right

pub returns-in_err-p : goal.returns-in_err-p
returns-in_err-p t c =
    rw c.from_residual.ensures (going-stops c.args.pattern c.args.target
    (c.fellows.ensures.0 c.if-not-fellows.false) c.places-end.result c.places-end.ensures.value (c.places-end.result - c.loop.counter) c.loop.p c.loop.q c.args.bound.now c.loop.bound c.match_word.new.bound (omega arith) c.loop.invariant (rw (c.at.ensures.nodes, c.at.ensures.start, c.at-in-loop.ensures.nodes, c.at-in-loop.ensures.start) at c.in_err-p.ensures))

pub loop-preserved : goal.loop-preserved
loop-preserved t c =
    going_on c.args.pattern.nodes.now c.args.target.nodes.now c.places-end.result (c.places-end.result - c.loop.counter) c.loop.p c.loop.q c.loop.bound (c.args.pattern.start + 1) (c.args.target.start + 1) c.args.bound.now (omega arith) c.loop.invariant
    _ _ _ _ (omega arith) (rw (c.at.ensures.nodes, c.at.ensures.start, c.at-in-loop.ensures.nodes, c.at-in-loop.ensures.start) at c.in_ok-p.ensures)

pub returns : goal.returns
returns t c =
    going-last c.args.pattern c.args.target
    (c.fellows.ensures.0 c.if-not-fellows.false) c.places-end.result c.places-end.ensures.value (c.places-end.result - c.loop.counter) c.loop.p c.loop.q c.args.bound.now c.loop.bound (omega arith) c.loop.invariant
