use Rattle.std.proofs.Common.{◌≡◌, ℕ, ◌+◌, ◌-◌, List, ◌++◌, length, Some, None, string_bytes, sym, refl, ap, ◌∙◌, arith}
use Rattle.std.proofs.lemmas.Slice.{pushed}
use Rattle.listing.specs.Lines.{after, number_line, count_line, fault_line}
use Rattle.listing.specs.Listed.{listed_from, listed}
use Rattle.listing.proofs.Turns.{from_end, from_more, from-fault, after-after}
use Rattle.listing.proofs.Truths.{faithful}
use Rattle.listing.proofs.numbers.list_numbers.Goals as goal

pub loop-at-init : goal.loop-at-init
unfolding listed
loop-at-init c =
    let empty = c.new-text.ensures.bytes in
    (omega arith, omega arith, (length c.args.input.now, omega arith, rw empty))

pub loop-at-preserved : goal.loop-at-preserved
loop-at-preserved c =
    let input = c.args.input.now in
    let old = string_bytes c.loop-at.text in
    let inv = c.loop-at.invariant in
    let read = c.in-Ok.ensures in
    let line : c.deref.result.now ≡ number_line c.loop-at.at c.in-Ok.value = c.deref.ensures ∙ c.in_ok-number_line-in-Ok.ensures in
    let text = pushed c.deref.result.now refl c.in_ok-push_str-in-Ok.was c.push_str.ensures.bytes in
    let next = listed_from (inv.2.0 - 1) input c.in-Ok.next (c.loop-at.count + 1) in (
      read.exact.1,
      omega (arith, read.exact.0),
      (
        inv.2.0 - 1,
        omega (arith, read.exact.0),
        ap (λ (l : List ℕ). after l next) (text ∙ ap (λ (l : List ℕ). old ++ l) line)
            ∙ sym (after-after old (number_line c.loop-at.at c.in-Ok.value) next)
            ∙ ap (after old) (sym (from_more inv.2.0 input c.loop-at.at c.loop-at.count (omega arith) inv.2.1 (c.in-Ok.value, c.in-Ok.next) (sym read.value)))
            ∙ inv.2.2,
      ),
    )

pub returns-in-Err : goal.returns-in-Err
returns-in-Err c =
    let input = c.args.input.now in
    let old = string_bytes c.loop-at.text in
    let inv = c.loop-at.invariant in
    let line : c.deref-in-Err.result.now ≡ fault_line c.in-Err.fault = c.deref-in-Err.ensures ∙ c.in_ok-fault_line-in-Err.ensures in
    let text = pushed c.deref-in-Err.result.now refl c.in_ok-push_str-in-Err.was c.push_str-in-Err.ensures.bytes in
    let value =
    ap (λ (l : List ℕ). (l, Some c.in-Err.fault)) (text ∙ ap (λ (l : List ℕ). old ++ l) line)
    ∙ ap (after old) (sym (from-fault inv.2.0 input c.loop-at.at c.loop-at.count (omega arith) inv.2.1 c.in-Err.fault (sym c.in-Err.ensures.value)))
    ∙ inv.2.2 in
    record { value = value; faithful = faithful c.args.input.now (λ i. (c.type_inv.input i).fits) _ value }

pub returns : goal.returns
returns c =
    let old = string_bytes c.loop-at.text in
    let inv = c.loop-at.invariant in
    let line : c.deref-2.result.now ≡ count_line c.loop-at.count = c.deref-2.ensures ∙ c.in_ok-count_line.ensures in
    let text = pushed c.deref-2.result.now refl c.in_ok-push_str.was c.push_str-2.ensures.bytes in
    let value =
    ap (λ (l : List ℕ). (l, None)) (text ∙ ap (λ (l : List ℕ). old ++ l) line)
    ∙ ap (after old) (sym (from_end inv.2.0 c.args.input.now c.loop-at.at c.loop-at.count (omega arith)))
    ∙ inv.2.2 in
    record { value = value; faithful = faithful c.args.input.now (λ i. (c.type_inv.input i).fits) _ value }
