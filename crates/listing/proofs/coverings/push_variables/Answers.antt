use Rattle.std.proofs.Common.{List, ℕ, ◌++◌, length, get_or, codes, decimal, string_bytes, sym, ap, ◌∙◌, subst, append_assoc, arith}
use Rattle.record.specs.Records.{literals}
use Rattle.term.specs.Coding.{Whole, word_at}
use Rattle.term.specs.declared.node.Node.{Node}
use Rattle.term.proofs.Codings.{whole-all, length-codes}
use Rattle.listing.specs.Explained.{variable_line}
use Rattle.listing.specs.Shown.{shown}
use Rattle.listing.proofs.Explaining.{line-added, lines-none}
use Rattle.listing.proofs.coverings.push_variables.Goals as goal

pub loop-x-init : goal.loop-x-init
loop-x-init c = lines-none (variable_line (literals c.args.mount.now) c.args.list.now) (string_bytes c.args.text.now)

pub invariant_of-show_word : goal.invariant_of-show_word
invariant_of-show_word c =
    let ls = literals c.args.mount.now in
    let same = c.nodes-nodes.ensures.value in
    record { whole = subst Whole (sym same) (whole-all ls); inside = omega (arith, c.requires c.loop-x.x-counter 0 c.loop-x-test.true, ap length same, length-codes ls) }

pub loop-x-preserved : goal.loop-x-preserved
loop-x-preserved c =
    let ls = literals c.args.mount.now in
    let list = c.args.list.now in
    let x = c.loop-x.x-counter in
    let q = get_or list x 0 in
    let b = shown (word_at c.nodes-nodes.result.now q) in
    let end = codes " at node " ++ (decimal q ++ codes "\n") in
    line-added (variable_line ls list) x (string_bytes c.args.text.now) (string_bytes c.loop-x.text) (string_bytes c.write.new.self) (string_bytes c.show_word.new.text) (string_bytes c.write-in-loop-x.new.self)
    (codes "X" ++ (decimal x ++ codes " is ")) b end c.loop-x.invariant c.in_ok-write.ensures.bytes c.in_ok-show_word.ensures.1 c.in_ok-write-2.ensures.bytes
    (ap (λ (ns : List Node). codes "X" ++ (decimal x ++ (codes " is " ++ (shown (word_at ns q) ++ end)))) (sym c.nodes-nodes.ensures.value)
    ∙ ap (λ (l : List ℕ). codes "X" ++ l) (sym (append_assoc (decimal x) (codes " is ") (b ++ end))))
