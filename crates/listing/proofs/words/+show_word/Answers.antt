use Rattle.std.proofs.Common.{◌≡◌, ℕ, ◌+◌, ◌-◌, List, ◌++◌, get_or, string_bytes, refl, ap, ◌∙◌, arith}
use Rattle.std.proofs.lemmas.Slice.{pushed}
use Rattle.term.specs.declared.node.Node.TheVariants.{Variable}
use Rattle.term.proofs.Walked.{walked-in}
use Rattle.listing.specs.Shown.{node_name, opening, closing}
use Rattle.listing.proofs.Showing.{going_on, going-first, going-last}
use Rattle.listing.proofs.words.+show_word.Goals as goal

pub loop-n-init : goal.loop-n-init
loop-n-init t c =
    going-first c.args.word.nodes.now c.args.word.start (Variable 0) c.args.word.inside c.args.word.whole c.places-count.result c.places-count.ensures.value (string_bytes c.push_name.new.text)

pub at-requires : goal.at-requires
at-requires t c = walked-in c.args.word.nodes.now c.places-count.result (c.places-count.result - c.loop-n.n) c.loop-n.at (c.args.word.start + 1) (omega arith) c.loop-n.invariant.walked

pub loop-n-preserved : goal.loop-n-preserved
loop-n-preserved t c =
    let old = string_bytes c.loop-n.text in
    let opened : string_bytes c.push_str.new.self ≡ old ++ opening c.loop-n.n =
    pushed c.divider.result.now refl c.in_ok-push_str.was c.push_str.ensures.bytes ∙ ap (λ (l : List ℕ). old ++ l) c.divider.ensures in
    let word = rw (c.at.ensures.nodes, c.at.ensures.start) at c.in_ok-at.ensures in
    going_on c.args.word.nodes.now c.places-count.result c.loop-n.n c.loop-n.at c.in_ok-at.at (c.args.word.start + 1) old (string_bytes c.push_str.new.self) (string_bytes c.show_word.new.text) (string_bytes c.push_name.new.text)
    c.loop-n-test.true c.loop-n.invariant word.0 opened word.1

pub returns : goal.returns
returns t c =
    let old = string_bytes c.args.text.now in
    let named : string_bytes c.push_name.new.text ≡ old ++ node_name (get_or c.args.word.nodes.now c.args.word.start (Variable 0)) =
    c.in_ok-push_name.ensures in
    let text = string_bytes c.loop-n.text in
    let closed : string_bytes c.push_str-2.new.self ≡ text ++ closing c.places-count.result =
    pushed c.closing.result.now refl c.in_ok-push_str-2.was c.push_str-2.ensures.bytes ∙ ap (λ (l : List ℕ). text ++ l) c.closing.ensures in
    going-last c.args.word.nodes.now c.args.word.start (Variable 0) c.args.word.inside c.args.word.whole c.places-count.result c.places-count.ensures.value c.loop-n.n c.loop-n.at old (string_bytes c.push_name.new.text) text (string_bytes c.push_str-2.new.self)
    c.loop-n-test.false (omega arith) c.loop-n.invariant named closed
