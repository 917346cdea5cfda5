use Rattle.std.proofs.Common.{◌+◌, ◌<◌, List, ℕ, ◌++◌, length, get_or, drop, subst, sym, ap, ◌∙◌, rules}
use Rattle.std.proofs.lemmas.Bool.{both_ways}
use Rattle.std.proofs.lemmas.List.Elements.{All-push}
use Rattle.bounded.specs.Elems.{elems}
use Rattle.clauses.specs.Clauses.{literals_at}
use Rattle.subsume.specs.Choices.{pick, picked}
use Rattle.subsume.proofs.Sets.{absent}
use Rattle.reduction.specs.Progress.{Progress, Image}
use Rattle.reduction.proofs.Turning.{free-progress, free-stays, spare-progress, spare-next, needed-more, needed-image, needed-full, still-spared, within-more, within-itself}
use Rattle.reduction.proofs.tidying.Decided.turn.Goals as goal

pub returns-then-not-test-clause-spared : goal.returns-then-not-test-clause-spared
returns-then-not-test-clause-spared g c =
    let t = c.args.table.now in
    let d = c.args.self.now in
    still-spared t.literals.nodes.now t.literals.starts.now t.targets.nodes.now t.targets.starts.now c.args.start.now.sets d.held.words d.held.words d.gone.words c.include.new.self.words
    (within-itself d.held.words) (within-more d.gone.words c.include.new.self.words c.args.i c.include.ensures.here c.include.ensures.others) c.requires.spared

pub returns-then-not-test-clause-turned : goal.returns-then-not-test-clause-turned
returns-then-not-test-clause-turned g c =
    let a = c.args.table.now.targets in
    let t = c.args.table.now in
    let I = literals_at t.literals.nodes.now t.literals.starts.now in
    let s = c.requires.standing in
    let d = c.args.self.now in
    let out = absent c.args.mapped.now.words c.args.i (λ e. both_ways _ c.if-not-test.true (c.test.ensures.1 e)) in
    record {
      progress = free-progress a.nodes.now a.starts.now (elems d.kept) c.args.i c.requires.literal d.held.words d.gone.words c.args.mapped.now.words I s.progress s.image c.include.new.self.words c.include.ensures.here c.include.ensures.others out;
      image = free-stays a.nodes.now a.starts.now (elems d.kept) c.args.i c.requires.literal d.held.words d.gone.words c.args.mapped.now.words I s.progress s.image c.include.new.self.words c.include.ensures.here c.include.ensures.others out;
    }

pub returns-in-Some-clause-spared : goal.returns-in-Some-clause-spared
returns-in-Some-clause-spared g c =
    let t = c.args.table.now in
    let d = c.args.self.now in
    let after = c.include-2.new.self.words in
    still-spared t.literals.nodes.now t.literals.starts.now t.targets.nodes.now t.targets.starts.now c.strike_out.new.state.sets d.held.words d.held.words d.gone.words after
    (within-itself d.held.words) (within-more d.gone.words after c.args.i c.include-2.ensures.here c.include-2.ensures.others)
    (c.strike_out.ensures.spared d.held.words d.gone.words (within-itself d.gone.words) c.requires.spared)

pub returns-in-Some-clause-turned : goal.returns-in-Some-clause-turned
returns-in-Some-clause-turned g c =
    let a = c.args.table.now.targets in
    let t = c.args.table.now in
    let I = literals_at t.literals.nodes.now t.literals.starts.now in
    let s = c.requires.standing in
    let d = c.args.self.now in
    let after = c.include-2.new.self.words in
    let choice = picked c.in-Some.picks in
    let chosen = c.in-Some.ensures in (
      spare-progress a.nodes.now a.starts.now (elems d.kept) c.args.i c.requires.literal d.held.words d.gone.words c.args.mapped.now.words I s.progress s.image after c.include-2.ensures.here c.include-2.ensures.others choice chosen,
      spare-next a.nodes.now a.starts.now (elems d.kept) c.args.i c.requires.literal d.held.words d.gone.words c.args.mapped.now.words I s.progress s.image after c.include-2.ensures.here c.include-2.ensures.others choice chosen,
      λ k h. (chosen.1 k h).0,
    )

pub returns-in-Ok-clause-inside : goal.returns-in-Ok-clause-inside
returns-in-Ok-clause-inside g c =
    let a = c.args.table.now.targets in
    let d = c.args.self.now in
    rw c.in-Ok.ensures.1 (All-push (λ s. s < length a.nodes.now) (elems d.kept) (get_or a.starts.now c.args.i 0) c.requires.inside (a.inside c.args.i c.requires.literal))

pub returns-in-Ok-clause-spared : goal.returns-in-Ok-clause-spared
returns-in-Ok-clause-spared g c =
    let t = c.args.table.now in
    let d = c.args.self.now in
    let more = c.include-3.new.self.words in
    c.hold.ensures.spared more d.gone.words c.include-3.ensures.here
    (still-spared t.literals.nodes.now t.literals.starts.now t.targets.nodes.now t.targets.starts.now c.strike_out.new.state.sets d.held.words more d.gone.words d.gone.words
    (within-more d.held.words more c.args.i c.include-3.ensures.here c.include-3.ensures.others) (within-itself d.gone.words)
    (c.strike_out.ensures.spared d.held.words d.gone.words (within-itself d.gone.words) c.requires.spared))

pub returns-in-Err-clause-spared : goal.returns-in-Err-clause-spared
returns-in-Err-clause-spared g c =
    let t = c.args.table.now in
    let d = c.args.self.now in
    let more = c.include-3.new.self.words in
    c.hold.ensures.spared more d.gone.words c.include-3.ensures.here
    (still-spared t.literals.nodes.now t.literals.starts.now t.targets.nodes.now t.targets.starts.now c.strike_out.new.state.sets d.held.words more d.gone.words d.gone.words
    (within-more d.held.words more c.args.i c.include-3.ensures.here c.include-3.ensures.others) (within-itself d.gone.words)
    (c.strike_out.ensures.spared d.held.words d.gone.words (within-itself d.gone.words) c.requires.spared))

pub returns-in-Ok-clause-turned : goal.returns-in-Ok-clause-turned
returns-in-Ok-clause-turned g c =
    let a = c.args.table.now.targets in
    let t = c.args.table.now in
    let C = literals_at a.nodes.now a.starts.now in
    let I = literals_at t.literals.nodes.now t.literals.starts.now in
    let s = c.requires.standing in
    let d = c.args.self.now in
    let held = c.include-3.new.self.words in
    let e = sym c.in-Ok.ensures.1 in
    record {
      progress = subst (λ (l : List ℕ). Progress C (c.args.i + 1) (literals_at a.nodes.now l) held d.gone.words) e
          (needed-more a.nodes.now a.starts.now (elems d.kept) c.args.i c.requires.literal d.held.words d.gone.words c.args.mapped.now.words I s.progress s.image c.include-2.new.self.words c.include-2.ensures.here c.include-2.ensures.others held c.include-3.ensures.others c.in_default.ensures);
      image = subst (λ (l : List ℕ). Image C (literals_at a.nodes.now l ++ drop (c.args.i + 1) C) c.args.mapped.now.words d.gone.words I) e
          (needed-image a.nodes.now a.starts.now (elems d.kept) c.args.i c.requires.literal d.held.words d.gone.words c.args.mapped.now.words I s.progress s.image c.include-2.new.self.words c.include-2.ensures.here c.include-2.ensures.others held c.include-3.ensures.others c.in_default.ensures);
    }

pub returns-in-Err-clause-turned : goal.returns-in-Err-clause-turned
returns-in-Err-clause-turned g c =
    let a = c.args.table.now.targets in
    let t = c.args.table.now in
    let I = literals_at t.literals.nodes.now t.literals.starts.now in
    let s = c.requires.standing in
    let d = c.args.self.now in
    needed-full a.nodes.now a.starts.now (elems d.kept) c.args.i c.requires.literal d.held.words d.gone.words c.args.mapped.now.words I s.progress s.image c.include-2.new.self.words c.include-2.ensures.here c.include-2.ensures.others c.include-3.new.self.words c.include-3.ensures.others c.in_default.ensures
    c.in-Err.ensures.0

pub choices_without-requires : goal.choices_without-requires
choices_without-requires g c =
    let d = c.args.self.now in
    let left = c.strike_out.ensures.spared d.held.words d.gone.words (within-itself d.gone.words) c.requires.spared in
    let none = λ (k : ℕ). ap (λ picks. pick picks k) c.strike_out.ensures.picks ∙ c.requires.none k in
    (search rules, (search rules, (search rules, (search rules, (search rules, (c.requires.literal, (c.requires.same, (c.requires.whole, (c.requires.variables, (c.strike_out.ensures.picked, (none, (left, (c.requires.standing, (c.include-2.ensures.here, c.include-2.ensures.others))))))))))))))
