use Rattle.std.proofs.Common.{◌≡◌, ℕ, ◌-◌, List, [], ◌++◌, length, string_bytes, sym, refl, ap, ◌∙◌, subst, ap₂, append-nil, arith}
use Rattle.std.specs.List.{between}
use Rattle.std.proofs.lemmas.Slice.{pushed}
use Rattle.number.specs.Faults.{told}
use Rattle.place.specs.Packing.{read_place}
use Rattle.listing.specs.Lines.{after}
use Rattle.listing.proofs.Turns.{after-after}
use Rattle.gathering.specs.Gathered.{Told, one_entry, gathered_from, gathered, Ruled}
use Rattle.entries.specs.Lines.{bad_line}
use Rattle.gathering.proofs.Turns.{from_end, from_more, from-fault, ruled-after}
use Rattle.gathering.proofs.whole.gather.Goals as goal
use Rattle.gathering.proofs.whole.gather.Goals.{else-loop-at-test, then-loop-at-test+in-Err+in_ok-bad_line-in-Err+in_ok-push_str-in-Err}

pub loop-at-init : goal.loop-at-init
unfolding gathered
loop-at-init c =
    let empty = c.new-text.ensures.bytes in
    (omega arith, ([], rw c.new-gatherer.ensures, (length c.args.input.now, omega arith, rw empty)))

pub loop-at-preserved : goal.loop-at-preserved
loop-at-preserved c =
    let input = c.args.input.now in
    let old = string_bytes c.loop-at.text in
    let inv = c.loop-at.invariant in
    let ms = inv.1.0 in
    let turns = inv.1.2.0 in
    let entry = c.in-Ok.ensures in
    let one : Told = one_entry c.in-Ok.start ms (read_place (between c.in-Ok.start c.in-Ok.end input)) in
    let goes = c.in_ok-turn-in-Ok.ensures ms inv.1.1 in
    let line : c.deref.result.now ≡ one.0 = c.deref.ensures ∙ goes.1 in
    let text = pushed c.deref.result.now refl c.in_ok-push_str-in-Ok.was c.push_str.ensures.bytes in
    let next = gathered_from (turns - 1) input c.in-Ok.end one.1 in (
      entry.inside.2,
      (
        one.1,
        goes.0,
        (
          turns - 1,
          omega (arith, entry.inside.0, entry.inside.1),
          ap (λ (l : List ℕ). after l next) (text ∙ ap (λ (l : List ℕ). old ++ l) line)
              ∙ sym (after-after old one.0 next)
              ∙ ap (after old) (sym (from_more turns input c.loop-at.at ms c.loop-at-test.true inv.1.2.1 c.in-Ok.start c.in-Ok.end (sym entry.value) one refl))
              ∙ inv.1.2.2,
        ),
      ),
    )

pub returns : goal.returns
returns c =
    let input = c.args.input.now in
    let old = string_bytes c.loop-at.text in
    let lines = string_bytes c.loop-at-test.text in
    let out = string_bytes c.push_str-2.new.self in
    let inv = c.loop-at.invariant in
    let ms = inv.1.0 in
    let turns = inv.1.2.0 in
    let all : (lines, ms) ≡ gathered input = elim c.loop-at-test.branch [
      | else-loop-at-test w ↦
          ap (λ (l : List ℕ). (l, ms)) (ap string_bytes w.text-is ∙ sym (append-nil old)) ∙ ap (after old) (sym (from_end turns input c.loop-at.at ms w.loop-at-test.false)) ∙ inv.1.2.2
      | then-loop-at-test+in-Err+in_ok-bad_line-in-Err+in_ok-push_str-in-Err w ↦
          let line : w.deref-in-Err.result.now ≡ bad_line (told w.in-Err.fault).0 (told w.in-Err.fault).1 =
          w.deref-in-Err.ensures ∙ w.in_ok-bad_line-in-Err.ensures ∙ ap₂ bad_line w.question.ensures w.byte.ensures in
          let text = pushed w.deref-in-Err.result.now refl w.in_ok-push_str-in-Err.was w.push_str-in-Err.ensures.bytes in
          ap (λ (l : List ℕ). (l, ms)) (ap string_bytes w.text-is ∙ text ∙ ap (λ (l : List ℕ). old ++ l) line)
          ∙ ap (after old) (sym (from-fault turns input c.loop-at.at ms w.loop-at-test.true inv.1.2.1 w.in-Err.fault (sym w.in-Err.ensures.value)))
          ∙ inv.1.2.2
    ] in
    let text = pushed c.deref-2.result.now refl c.in_ok-push_str.was c.push_str-2.ensures.bytes in
    subst (λ (t : Told). Ruled t out) all (ruled-after lines ms (string_bytes c.in_ok-rule_line.field-0) out (c.in_ok-rule_line.ensures ms inv.1.1) (text ∙ ap (λ (l : List ℕ). lines ++ l) c.deref-2.ensures))
