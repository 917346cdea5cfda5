use Rattle.std.proofs.Common.{ℕ, ◌+◌, List, get_or, drop, sym, ap, ◌∙◌, arith}
use Rattle.std.proofs.lemmas.List.{drop_more, drop_all}
use Rattle.std.proofs.lemmas.Bool.{both_ways}
use Rattle.term.specs.Coding.{word_at}
use Rattle.record.specs.Clauses.{stands}
use Rattle.record.specs.Reads.{words_from}
use Rattle.record.proofs.Places.{stands-none, stands-first, stands-later}
use Rattle.record.proofs.literal.stands_among.Goals as goal

pub returns-then-is_same : goal.returns-then-is_same
returns-then-is_same c =
    let nodes = c.args.word.nodes.now in
    let starts = c.args.starts.now in
    let k = c.loop-start.start-index in
    let w = word_at nodes c.args.word.start in
    let more = drop_more starts k 0 (omega arith) in
    sym (ap (λ (l : List ℕ). stands w (words_from nodes l)) more ∙ stands-first w (word_at nodes (get_or starts k 0)) (words_from nodes (drop (k + 1) starts)) ((rw (c.at.ensures.nodes, c.at.ensures.start) at c.is_same.ensures).0 c.if-is_same.true))
    ∙ c.loop-start.invariant

pub loop-start-preserved : goal.loop-start-preserved
loop-start-preserved c =
    let nodes = c.args.word.nodes.now in
    let starts = c.args.starts.now in
    let k = c.loop-start.start-index in
    let w = word_at nodes c.args.word.start in
    let more = drop_more starts k 0 (omega arith) in
    let rest = words_from nodes (drop (k + 1) starts) in
    let on = stands-later w (word_at nodes (get_or starts k 0)) rest (λ e. both_ways _ c.if-is_same.false ((rw (c.at.ensures.nodes, c.at.ensures.start) at c.is_same.ensures).1 e)) in
    sym on ∙ sym (ap (λ (l : List ℕ). stands w (words_from nodes l)) more) ∙ c.loop-start.invariant

pub returns : goal.returns
returns c =
    let nodes = c.args.word.nodes.now in
    let starts = c.args.starts.now in
    let w = word_at nodes c.args.word.start in
    sym (ap (λ (l : List ℕ). stands w (words_from nodes l)) (drop_all c.loop-start.start-index starts (omega arith)) ∙ stands-none w) ∙ c.loop-start.invariant
