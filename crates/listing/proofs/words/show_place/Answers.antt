use Rattle.std.proofs.Common.{ℕ, List, ◌++◌, length, sym, ap, ◌∙◌, subst, arith}
use Rattle.term.specs.Coding.{Whole, word_at}
use Rattle.term.proofs.Codings.{meant}
use Rattle.place.specs.Places.{meaning}
use Rattle.place.specs.Held.{held}
use Rattle.listing.specs.Shown.{shown}
use Rattle.listing.proofs.words.show_place.Goals as goal

pub invariant_of-word : goal.invariant_of-word
invariant_of-word c =
    let p = c.args.place.now in
    let e = c.nodes.ensures ∙ (held p).nodes-of in
    record { whole = subst Whole (sym e) (held p).whole; inside = omega (arith, ap length e, (held p).some) }

pub returns : goal.returns
returns c =
    let p = c.args.place.now in
    let word = c.in_ok-show_word.ensures in
    word.1 ∙ ap (λ (l : List ℕ). l ++ shown (word_at c.nodes.result.now 0)) c.new-text.ensures.bytes ∙ ap shown (meant (meaning p) c.nodes.result.now c.nodes.ensures)
