use Rattle.std.proofs.Common.{◌≡◌, List, ℕ, ◌++◌, length, Some, codes, string_bytes, inr, ap, ◌∙◌, append_assoc, arith}
use Rattle.std.proofs.lemmas.List.{get_or_default}
use Rattle.std.proofs.lemmas.Slice.Zip.{AllZip-long}
use Rattle.std.specs.List.{slice_get}
use Rattle.bounded.specs.Elems.{elems}
use Rattle.clauses.specs.Clauses.{each}
use Rattle.clauses.proofs.Each.{length-each}
use Rattle.record.specs.Clauses.{variables}
use Rattle.record.specs.Records.{literals}
use Rattle.term.specs.Words.{len, sub}
use Rattle.witness.proofs.Inside.{inside}
use Rattle.listing.specs.Explained.{lines, variable_line, literal_line}
use Rattle.listing.proofs.coverings.tell_why.Goals as goal

pub push_variables-requires : goal.push_variables-requires
push_variables-requires c =
    let list = c.args.list.now in
    λ k d lt. rw (get_or_default list k d 0 lt) (inside (literals c.args.rule.now) (literals c.args.mount.now) list c.requires k (omega (arith, c.requires.2)))

pub returns : goal.returns
returns c =
    let rule = literals c.args.rule.now in
    let mount = literals c.args.mount.now in
    let list = c.args.list.now in
    let choice = elems c.in-Some.choice in
    let first = c.in-Some.ensures in
    let long : length choice ≡ len rule = AllZip-long (λ l j. slice_get (each mount) j ≡ Some (sub first.0.0 l)) (each rule) choice first.0.1 ∙ length-each rule in
    let many = c.requires.2 in
    let vs = lines (variable_line mount list) (variables rule) in
    let ls = lines (literal_line rule mount choice) (len rule) in
    let text : string_bytes c.push_variables.new.text ≡ codes "covered\n" ++ vs = (rw many at c.in_ok-push_variables.ensures) ∙ ap (λ (l : List ℕ). l ++ vs) c.in_ok-text.ensures.ok in
    let all : string_bytes c.push_literals.new.text ≡ string_bytes c.push_variables.new.text ++ ls = rw (c.as_slice.ensures.value, long) at c.in_ok-push_literals.ensures in
    inr (choice, list, first, c.requires, all ∙ ap (λ (l : List ℕ). l ++ ls) text ∙ append_assoc (codes "covered\n") vs ls)
