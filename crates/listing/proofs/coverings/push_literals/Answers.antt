use Rattle.std.proofs.Common.{◌≡◌, List, ℕ, ◌<◌, ◌++◌, length, get_or, codes, string_bytes, sym, ap, ap₂, ◌∙◌, append_assoc, arith}
use Rattle.std.proofs.lemmas.List.{get_or-map}
use Rattle.record.specs.declared.clause.Record.{Record}
use Rattle.record.specs.Records.{literals, clause}
use Rattle.record.proofs.Views.{literals-seen}
use Rattle.subsume.specs.FirstChoices.{Chooses}
use Rattle.subsume.specs.declared.view.View.{View}
use Rattle.subsume.proofs.Choosing.{Working, chooses-working}
use Rattle.clauses.specs.Beginnings.{begins}
use Rattle.term.specs.Coding as coding
use Rattle.term.specs.Coding.{word_at}
use Rattle.term.specs.Words.{Word, var}
use Rattle.listing.specs.Explained.{literal_line}
use Rattle.listing.specs.Shown.{shown}
use Rattle.listing.proofs.Explaining.{line-added, lines-none}
use Rattle.listing.proofs.coverings.push_literals.Goals as goal

-- a choice for two records, by their nodes
working : (rule mount : Record) (a b : View) (choice : List ℕ) → a.nodes.now ≡ coding.codes (literals rule) → a.starts.now ≡ begins 0 (literals rule) → b.nodes.now ≡ coding.codes (literals mount) → b.starts.now ≡ begins 0 (literals mount)
    → Chooses (clause rule) (clause mount) choice → Working a.nodes.now a.starts.now b.nodes.now b.starts.now choice
working rule mount a b choice e f g h c =
    let r = literals-seen (literals rule) a.nodes.now a.starts.now e f in
    let m = literals-seen (literals mount) b.nodes.now b.starts.now g h in
    chooses-working a.nodes.now a.starts.now b.nodes.now b.starts.now choice (rw (r, m) c)

pub loop-i-init : goal.loop-i-init
loop-i-init c = lines-none (literal_line (literals c.args.rule.now) (literals c.args.mount.now) c.args.choice.now) (string_bytes c.args.text.now)

pub literal-requires : goal.literal-requires
literal-requires c =
    let w = working c.args.rule.now c.args.mount.now c.view-literals.result c.view-targets.result c.args.choice.now c.view-literals.ensures.nodes c.view-literals.ensures.starts c.view-targets.ensures.nodes c.view-targets.ensures.starts c.requires in
    omega (arith, w.long)

pub literal-requires-in-loop-i : goal.literal-requires-in-loop-i
literal-requires-in-loop-i c =
    let w = working c.args.rule.now c.args.mount.now c.view-literals.result c.view-targets.result c.args.choice.now c.view-literals.ensures.nodes c.view-literals.ensures.starts c.view-targets.ensures.nodes c.view-targets.ensures.starts c.requires in
    w.inside c.loop-i.i (omega (arith, w.long))

pub loop-i-preserved : goal.loop-i-preserved
loop-i-preserved c =
    let rule = c.args.rule.now in
    let mount = c.args.mount.now in
    let choice = c.args.choice.now in
    let i = c.loop-i.i in
    let j = get_or choice i 0 in
    let a = c.view-literals.result in
    let b = c.view-targets.result in
    let r = literals-seen (literals rule) a.nodes.now a.starts.now c.view-literals.ensures.nodes c.view-literals.ensures.starts in
    let m = literals-seen (literals mount) b.nodes.now b.starts.now c.view-targets.ensures.nodes c.view-targets.ensures.starts in
    let w = working rule mount a b choice c.view-literals.ensures.nodes c.view-literals.ensures.starts c.view-targets.ensures.nodes c.view-targets.ensures.starts c.requires in
    let here : i < length a.starts.now = omega (arith, w.long) in
    let u : get_or (clause rule) i (var 0) ≡ word_at a.nodes.now (get_or a.starts.now i 0) = ap (λ (ls : List Word). get_or ls i (var 0)) (sym r) ∙ get_or-map (word_at a.nodes.now) a.starts.now i 0 (var 0) here in
    let v : get_or (clause mount) j (var 0) ≡ word_at b.nodes.now (get_or b.starts.now j 0) = ap (λ (ls : List Word). get_or ls j (var 0)) (sym m) ∙ get_or-map (word_at b.nodes.now) b.starts.now j 0 (var 0) (w.inside i here) in
    let x = shown (word_at a.nodes.now (get_or a.starts.now i 0)) in
    let y = shown (word_at b.nodes.now (get_or b.starts.now j 0)) in
    let first = rw (c.literal.ensures.nodes, c.literal.ensures.start) at c.in_ok-show_word.ensures.1 in
    let second = rw (c.literal-in-loop-i.ensures.nodes, c.literal-in-loop-i.ensures.start) at c.in_ok-show_word-2.ensures.1 in
    line-added (literal_line (literals rule) (literals mount) choice) i (string_bytes c.args.text.now) (string_bytes c.loop-i.text) (string_bytes c.show_word.new.text) (string_bytes c.push_str.new.self) (string_bytes c.push_str-in-loop-i.new.self)
    x (codes " becomes ") (y ++ codes "\n") c.loop-i.invariant first c.in_ok-push_str.ensures.bytes
    (c.in_ok-push_str-2.ensures.bytes ∙ ap (λ (l : List ℕ). l ++ codes "\n") second ∙ append_assoc (string_bytes c.push_str.new.self) y (codes "\n"))
    (ap₂ (λ (l k : Word). shown l ++ (codes " becomes " ++ (shown k ++ codes "\n"))) u v)
