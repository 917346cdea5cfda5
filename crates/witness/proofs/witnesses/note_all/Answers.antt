use Rattle.std.proofs.Common.{◌≡◌, ℕ, ◌<◌, List, length, get_or, sym, ap, ◌∙◌, arith}
use Rattle.std.proofs.lemmas.List.{get_or-map, length-map}
use Rattle.clauses.specs.Beginnings.{begins}
use Rattle.record.specs.Records.{literals, clause}
use Rattle.record.specs.declared.clause.Record.{Record}
use Rattle.record.specs.Held.{held}
use Rattle.record.proofs.Views.{literals-seen}
use Rattle.subsume.specs.FirstChoices.{Chooses}
use Rattle.subsume.specs.declared.view.View.{View}
use Rattle.subsume.proofs.Choosing.{Working, chooses-working}
use Rattle.term.specs.Lawful.{stood}
use Rattle.term.specs.Coding.{codes, word_at}
use Rattle.term.specs.Words.{Word, var, varss}
use Rattle.term.proofs.Codings.{length-codes}
use Rattle.term.proofs.Matchings.{below_more}
use Rattle.witness.proofs.Noting.{noted-on, noted-all}
use Rattle.witness.proofs.Occurring.{occurring, occurring-all, below-stood}
use Rattle.witness.proofs.witnesses.note_all.Goals as goal

-- a choice for two records, by their nodes
seen : (rule mount : Record) (a b : View) (choice : List ℕ) → a.nodes.now ≡ codes (literals rule) → a.starts.now ≡ begins 0 (literals rule) → b.nodes.now ≡ codes (literals mount) → b.starts.now ≡ begins 0 (literals mount)
    → Chooses (clause rule) (clause mount) choice → Working a.nodes.now a.starts.now b.nodes.now b.starts.now choice
seen rule mount a b choice e f g h c =
    let r = literals-seen (literals rule) a.nodes.now a.starts.now e f in
    let m = literals-seen (literals mount) b.nodes.now b.starts.now g h in
    chooses-working a.nodes.now a.starts.now b.nodes.now b.starts.now choice (rw (r, m) c)

pub literal-requires : goal.literal-requires
literal-requires c =
    let w = seen c.args.rule.now c.args.mount.now c.view-a.result c.view-b.result c.args.choice.now c.view-a.ensures.nodes c.view-a.ensures.starts c.view-b.ensures.nodes c.view-b.ensures.starts c.requires.chosen in
    omega (arith, w.long)

pub literal-requires-in-loop-i : goal.literal-requires-in-loop-i
literal-requires-in-loop-i c =
    let w = seen c.args.rule.now c.args.mount.now c.view-a.result c.view-b.result c.args.choice.now c.view-a.ensures.nodes c.view-a.ensures.starts c.view-b.ensures.nodes c.view-b.ensures.starts c.requires.chosen in
    w.inside c.loop-i.i (omega (arith, w.long))

pub note_word-seen-requires-clause-turned : goal.note_word-seen-requires-clause-turned
note_word-seen-requires-clause-turned c =
    let w = seen c.args.rule.now c.args.mount.now c.view-a.result c.view-b.result c.args.choice.now c.view-a.ensures.nodes c.view-a.ensures.starts c.view-b.ensures.nodes c.view-b.ensures.starts c.requires.chosen in
    (w.works.0, rw (c.literal.ensures.nodes, c.literal.ensures.start, c.literal-in-loop-i.ensures.nodes, c.literal-in-loop-i.ensures.start) (w.works.1 c.loop-i.i (omega (arith, w.long))))

pub note_word-seen-requires-clause-room : goal.note_word-seen-requires-clause-room
note_word-seen-requires-clause-room c =
    let ls = literals c.args.rule.now in
    let few : stood 0 (occurring (codes ls)) ≡ stood 0 (varss ls) = ap (stood 0) (occurring-all ls) in
    rw (c.literal.ensures.nodes, c.view-a.ensures.nodes) (below_more _ (length c.loop-i.list) (codes ls) (omega (arith, few, c.requires.room, c.loop-i.auto.list)) (below-stood 0 (codes ls)))

pub note_word-seen-requires-clause-small : goal.note_word-seen-requires-clause-small
note_word-seen-requires-clause-small c =
    let h = held c.args.mount.now in
    omega (arith, h.small, length-codes (literals c.args.mount.now), ap length c.literal-in-loop-i.ensures.nodes, ap length c.view-b.ensures.nodes)

pub loop-i-preserved : goal.loop-i-preserved
loop-i-preserved c =
    let rule = c.args.rule.now in
    let mount = c.args.mount.now in
    let choice = c.args.choice.now in
    let i = c.loop-i.i in
    let j = get_or choice i 0 in
    let a = c.view-a.result in
    let b = c.view-b.result in
    let r = literals-seen (literals rule) a.nodes.now a.starts.now c.view-a.ensures.nodes c.view-a.ensures.starts in
    let m = literals-seen (literals mount) b.nodes.now b.starts.now c.view-b.ensures.nodes c.view-b.ensures.starts in
    let w = seen rule mount a b choice c.view-a.ensures.nodes c.view-a.ensures.starts c.view-b.ensures.nodes c.view-b.ensures.starts c.requires.chosen in
    let here : i < length a.starts.now = omega (arith, w.long) in
    let u : get_or (clause rule) i (var 0) ≡ word_at a.nodes.now (get_or a.starts.now i 0) = ap (λ (ls : List Word). get_or ls i (var 0)) (sym r) ∙ get_or-map (word_at a.nodes.now) a.starts.now i 0 (var 0) here in
    let v : get_or (clause mount) j (var 0) ≡ word_at b.nodes.now (get_or b.starts.now j 0) = ap (λ (ls : List Word). get_or ls j (var 0)) (sym m) ∙ get_or-map (word_at b.nodes.now) b.starts.now j 0 (var 0) (w.inside i here) in
    let at : get_or (begins 0 (literals mount)) j 0 ≡ get_or b.starts.now j 0 = ap (λ (ns : List ℕ). get_or ns j 0) (sym c.view-b.ensures.starts) in
    let made = rw (c.literal.ensures.nodes, c.literal.ensures.start, c.literal-in-loop-i.ensures.nodes, c.literal-in-loop-i.ensures.start) at c.note_word-seen.ensures in
    noted-on (clause rule) (literals mount) choice i (omega (arith, ap length r, length-map a.starts.now (word_at a.nodes.now), here)) (omega arith) _ _ _ u v at c.loop-i.seen c.loop-i.list c.note_word-seen.result c.note_word-seen.new.list made
    ∙ c.loop-i.invariant

pub returns : goal.returns
returns c =
    ap (λ (r : ℕ × List ℕ). r.1)
    (sym c.loop-i.invariant ∙ noted-all (clause c.args.rule.now) (literals c.args.mount.now) c.args.choice.now c.loop-i.i c.loop-i-test.false c.loop-i.seen c.loop-i.list)
