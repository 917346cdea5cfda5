use Rattle.std.proofs.Common.{◌≡◌, ℕ, true, ap, sym, ◌∙◌, subst, ⊎_elim}
use Rattle.std.proofs.lemmas.Bool.{cases_eq, both_ways}
use Rattle.clauses.specs.Clauses.{literals_at}
use Rattle.subsume.specs.declared.bits.BitSet.{BitSet}
use Rattle.subsume.specs.Bits.{bit_at, Within}
use Rattle.subsume.specs.Retracting.{Spares, Moves}
use Rattle.subsume.proofs.Retracting.{stands-in, told, kept-none, lost-more}
use Rattle.subsume.proofs.table.Table.lose.Goals as goal
use Rattle.subsume.proofs.table.Table.lose.Goals.{then-not-test, else-not-test}

pub returns-then-test-clause-spares : goal.returns-then-test-clause-spares
returns-then-test-clause-spares g c =
    let t = c.args.self.now in
    let N = t.literals.nodes.now in
    let S = t.literals.starts.now in
    let M = t.targets.nodes.now in
    let T = t.targets.starts.now in
    let slot = c.in-Some.slot.now in
    let s = c.in-Some.ensures in
    let kept = c.args.kept.now.words in
    let first = c.args.gone.now.words in
    kept-none N S M T (ap (λ v. v.nodes.now) c.requires.same) (ap (λ v. v.starts.now) c.requires.same) t.fronts.now slot (told N S M T t.fronts.now t.slots.now slot t.linked (stands-in t.slots.now slot s.0 s.1 s.2))
    kept first (subst (Moves kept first M T) (sym s.3) c.requires.moves) c.loop.gone.words (c.test.ensures.0 c.if-test.true)

pub loop-preserved : goal.loop-preserved
loop-preserved g c =
    let t = c.args.self.now in
    let N = t.literals.nodes.now in
    let S = t.literals.starts.now in
    let M = t.targets.nodes.now in
    let T = t.targets.starts.now in
    let slot = c.in-Some.slot.now in
    let s = c.in-Some.ensures in
    let kept = c.args.kept.now.words in
    let first = c.args.gone.now.words in
    let inv = c.loop.invariant in
    let P : BitSet 4 → Type 0 = λ (z : BitSet 4). Within first z.words × ((j : ℕ) → bit_at kept j ≡ 1 → bit_at z.words j ≡ bit_at first j) × Spares kept first z.words (literals_at M T) true in
    let all : P c.if-not-test.gone = elim c.if-not-test.branch [
      | then-not-test w ↦
          let after = w.include.new.self in
          subst P (sym w.gone-is) (
            λ j b. ⊎_elim (λ (e : j ≡ slot.literal). ap (bit_at after.words) e ∙ w.include.ensures.here) (λ n. w.include.ensures.others j n ∙ inv.more j b) (cases_eq j slot.literal),
            λ j b. ⊎_elim (λ (e : j ≡ slot.literal). absurd (both_ways _ c.if-test.false (c.test.ensures.1 (ap (bit_at kept) (sym e) ∙ b)))) (λ n. w.include.ensures.others j n ∙ inv.apart j b) (cases_eq j slot.literal),
            lost-more N S M T (ap (λ v. v.nodes.now) c.requires.same) (ap (λ v. v.starts.now) c.requires.same) t.fronts.now slot (told N S M T t.fronts.now t.slots.now slot t.linked (stands-in t.slots.now slot s.0 s.1 s.2))
                kept first (subst (Moves kept first M T) (sym s.3) c.requires.moves) c.loop.gone.words after.words inv.spares w.include.ensures.others,
          )
      | else-not-test w ↦ subst P (sym w.gone-is) (inv.more, inv.apart, inv.spares)
    ] in
    record { more = all.0; apart = all.1; spares = all.2 }
