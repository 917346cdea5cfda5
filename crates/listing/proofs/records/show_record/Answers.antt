use Rattle.std.proofs.Common.{ℕ, List, ◌++◌, length, string_bytes, codes, sym, refl, ap, ◌∙◌, subst, ap₂, append_assoc, arith}
use Rattle.std.proofs.lemmas.Slice.{pushed}
use Rattle.term.specs.Coding.{Whole, word_at}
use Rattle.term.specs.Words.{Words}
use Rattle.term.proofs.Codings.{whole-all, length-codes}
use Rattle.record.specs.Reads.{Inside, words_from}
use Rattle.record.specs.Records.{literals}
use Rattle.record.proofs.Places.{from_all}
use Rattle.clauses.proofs.Beginnings.{inside-begins}
use Rattle.clauses.specs.Clauses.{each}
use Rattle.listing.specs.Shown.{separated, shown, shown_clause}
use Rattle.listing.proofs.Separated.{one_more, none_left, separated-words}
use Rattle.listing.proofs.records.show_record.Goals as goal

pub invariant_of-show_word : goal.invariant_of-show_word
invariant_of-show_word c =
    let ls = literals c.args.clause.now in
    let nodes = c.nodes-nodes.result.now in
    let starts = c.starts-starts.result.now in
    let same = c.nodes-nodes.ensures.value in
    let inside = subst (Inside (length nodes)) (sym c.starts-starts.ensures) (inside-begins 0 (length nodes) ls (omega (arith, ap length same, length-codes ls))) in
    record { whole = subst Whole (sym same) (whole-all ls); inside = inside c.loop-k.k 0 c.loop-k-test.true }

pub loop-k-preserved : goal.loop-k-preserved
loop-k-preserved c =
    let old = string_bytes c.loop-k.text in
    let nodes = c.nodes-nodes.result.now in
    let starts = c.starts-starts.result.now in
    let show = λ (i : ℕ). shown (word_at nodes i) in
    let first = pushed c.divider.result.now refl c.in_ok-push_str-2.was c.push_str-in-loop-k.ensures.bytes ∙ ap (λ (t : List ℕ). old ++ t) c.divider.ensures in
    one_more show starts (codes "{" ++ separated show 0 starts) c.loop-k.k 0 old (string_bytes c.push_str-in-loop-k.new.self) (string_bytes c.show_word.new.text) c.loop-k-test.true c.loop-k.invariant first c.in_ok-show_word.ensures.1

pub returns : goal.returns
unfolding shown_clause
returns c =
    let ls = literals c.args.clause.now in
    let nodes = c.nodes-nodes.result.now in
    let starts = c.starts-starts.result.now in
    let show = λ (i : ℕ). shown (word_at nodes i) in
    let text = none_left show starts (codes "{" ++ separated show 0 starts) c.loop-k.k (string_bytes c.loop-k.text) c.loop-k-test.false c.loop-k.invariant in
    let words = ap₂ words_from c.nodes-nodes.ensures.value c.starts-starts.ensures ∙ from_all ls in
    let all = separated-words nodes 0 starts ∙ ap (λ (ws : Words). separated shown 0 (each ws)) words in
    c.in_ok-push_str-3.ensures.bytes
    ∙ ap (λ (t : List ℕ). t ++ codes "}") (text ∙ ap (λ (t : List ℕ). codes "{" ++ t) all)
    ∙ append_assoc (codes "{") (separated shown 0 (each ls)) (codes "}")
