use Rattle.std.proofs.Common.{◌≡◌, ℕ, ◌-◌, sym, ap, ◌∙◌, ap₂, arith, rules}
use Rattle.std.proofs.lemmas.Bool.{true≢false}
use Rattle.std.proofs.lemmas.Result.{err_from_is_err_and}
use Rattle.term.specs.Words.{Words, nil, len}
use Rattle.record.specs.Clauses.{variables, stands}
use Rattle.record.specs.Records.{literals}
use Rattle.record.specs.Marks.{Marked}
use Rattle.record.specs.Reads.{read_literals}
use Rattle.record.proofs.Places.{stands-none}
use Rattle.record.proofs.Turns.{literals-none, builds-read, turn-stopped, turn-more, answer-kept}
use Rattle.record.proofs.clause.packing.read_literals.Goals as goal

pub returns-in_err-next : goal.returns-in_err-next
returns-in_err-next c =
    let p = err_from_is_err_and c.from_residual.result c.from_residual.ensures.1 in
    rw (p.1, p.2) (turn-stopped c.args.count c.loop-k.k-counter (literals c.loop-k.out) c.args.input.now c.loop-k.at (literals c.read_literal.new.self) c.read_literal.result c.read_literal.ensures.value c.map_err.result (search rules) (omega arith) c.loop-k.invariant.0 _ c.loop-k.invariant.2 c.in_err-next.field-0.0 c.in_err-next.was c.read_literal.new.self)

pub loop-k-init : goal.loop-k-init
loop-k-init c =
    let none = c.requires.none in
    let all : c.args.count - 0 ≡ c.args.count = omega arith in (
      ap len none,
      sym (ap variables none),
      ap₂ (λ (n : ℕ) (us : Words). read_literals n us c.args.input.now c.args.at) all none,
      λ w h. absurd (true≢false (sym h ∙ ap (stands w) none ∙ stands-none w)),
    )

pub loop-k-preserved : goal.loop-k-preserved
loop-k-preserved c =
    let after = literals c.read_literal.new.self in
    let next = c.in_ok-next.next in
    let stood = c.in_ok-next.stood in
    let turn = turn-more c.args.count c.loop-k.k-counter (literals c.loop-k.out) c.args.input.now c.loop-k.at after c.read_literal.result c.read_literal.ensures.value c.map_err.result (search rules) (omega arith) c.loop-k.invariant.0 _ c.loop-k.invariant.2 next stood c.in_ok-next.was in
    let marked = answer-kept (Marked after c.read_literal.new.marks) c.loop-k.k-counter c.read_literal.result c.map_err.result (search rules) (next, stood) c.in_ok-next.was c.read_literal.ensures.marked in
    (turn.0, turn.1, turn.2, marked)

pub returns : goal.returns
returns c =
    let input = c.args.input.now in
    let done = literals-none (c.args.count - c.loop-k.k-counter) (literals c.loop-k.out) input c.loop-k.at (omega arith) in
    builds-read (read_literals c.args.count nil input c.args.at) c.loop-k.out c.loop-k.at (sym c.loop-k.invariant.2 ∙ done)
