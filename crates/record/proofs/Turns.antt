-- Reading literals, one after the other.
use Rattle.std.proofs.Common.{◌≡◌, ℕ, zero, suc, ◌+◌, ◌-◌, ◌<◌, List, Ok, Err, Result, sym, refl, ap, ◌∙◌, sub-one, arith}
use Rattle.std.specs.Prelude.{IfOk}
use Rattle.number.proofs.Answers.{clash, ok_same}
use Rattle.term.specs.Words.{Word, Words, nil, cons, ◌+++◌, len}
use Rattle.word.specs.Then.{then}
use Rattle.record.specs.declared.clause.Record.{Record}
use Rattle.record.specs.declared.fault.LiteralFault.{LiteralFault}
use Rattle.record.specs.declared.fault.RecordFault.{RecordFault}
use Rattle.record.specs.Clauses.{variables}
use Rattle.record.specs.Records.{literals}
use Rattle.clauses.proofs.Beginnings.{len-push}
use Rattle.record.specs.Reads.{read_literal, Adds, in_literal, read_literals, Builds}

-- no more literals are wanted
pub literals-none : (count : ℕ) (before : Words) (input : List ℕ) (at : ℕ) → count ≡ 0 → read_literals count before input at ≡ Ok (before, at)
unfolding read_literals
literals-none zero before input at e = refl
literals-none (suc count) before input at e = absurd (omega arith)

literals-fault : (count : ℕ) (before : Words) (input : List ℕ) (at : ℕ) (fault : LiteralFault) → 0 < count → read_literal before input at ≡ Err fault → read_literals count before input at ≡ Err (in_literal (len before) fault)
unfolding read_literals
literals-fault zero before input at fault h e = absurd (omega arith)
literals-fault (suc count) before input at fault h e = rw e

pub literals-more : (count : ℕ) (before : Words) (input : List ℕ) (at : ℕ) (l : Word) (to : ℕ) → 0 < count → read_literal before input at ≡ Ok (l, to)
    → read_literals count before input at ≡ read_literals (count - 1) (before +++ cons l nil) input to
unfolding read_literals
literals-more zero before input at l to h e = absurd (omega arith)
literals-more (suc count) before input at l to h e = rw (e, sub-one)

-- what an answer says of the definition
record Further (before : Words) (input : List ℕ) (at next stood : ℕ) (after : Words) : Type 0 where
  literal : Word
  read : read_literal before input at ≡ Ok (literal, next)
  counts : stood ≡ variables after
  longer : after ≡ before +++ cons literal nil

module _ (before : Words) (input : List ℕ) (at : ℕ) (after : Words) (literal : ℕ) where
  further : (R : Result (Word × ℕ) LiteralFault) → R ≡ read_literal before input at → (answer : Result (ℕ × ℕ) LiteralFault) → Adds R before answer after → (r : Result (ℕ × ℕ) RecordFault) → r ≡ then (in_literal literal) answer (λ p. Ok p)
      → (next stood : ℕ) → r ≡ Ok (next, stood) → Further before input at next stood after
  further (Ok p) e answer adds r is next stood was =
      let same : (p.1, variables after) ≡ (next, stood) = ok_same _ _ (sym (is ∙ ap (λ (a : Result (ℕ × ℕ) LiteralFault). then (in_literal literal) a (λ q. Ok q)) adds.0) ∙ was) in
      record { literal = p.0; read = sym e ∙ (λ i. Ok (p.0, (same i).0)); counts = λ i. (sym same i).1; longer = adds.1 }
  further (Err fault) e answer adds r is next stood was =
      absurd (clash (in_literal literal fault) (next, stood) (sym (is ∙ ap (λ (a : Result (ℕ × ℕ) LiteralFault). then (in_literal literal) a (λ q. Ok q)) adds.0) ∙ was))

  stopped : (R : Result (Word × ℕ) LiteralFault) → R ≡ read_literal before input at → (answer : Result (ℕ × ℕ) LiteralFault) → Adds R before answer after → (r : Result (ℕ × ℕ) RecordFault) → r ≡ then (in_literal literal) answer (λ p. Ok p)
      → (told : RecordFault) → r ≡ Err told → (fault : LiteralFault) × (read_literal before input at ≡ Err fault) × (told ≡ in_literal literal fault)
  stopped (Ok p) e answer adds r is told was =
      absurd (clash told (p.1, variables after) (sym was ∙ is ∙ ap (λ (a : Result (ℕ × ℕ) LiteralFault). then (in_literal literal) a (λ q. Ok q)) adds.0))
  stopped (Err fault) e answer adds r is told was =
      let same : ◌≡◌ {A = Result (ℕ × ℕ) RecordFault} (Err (in_literal literal fault)) (Err told) = sym (is ∙ ap (λ (a : Result (ℕ × ℕ) LiteralFault). then (in_literal literal) a (λ q. Ok q)) adds.0) ∙ was in
      let found : told ≡ in_literal literal fault = cc in
      (fault, sym e, found)

-- what holds after an answer that is no fault
pub answer-kept : (P : Type 0) (k : ℕ) (answer : Result (ℕ × ℕ) LiteralFault) (r : Result (ℕ × ℕ) RecordFault) → r ≡ then (in_literal k) answer (λ p. Ok p) → (p : ℕ × ℕ) → r ≡ Ok p → IfOk answer (λ _. P) → P
answer-kept P k (Ok q) r is p was h = h
answer-kept P k (Err fault) r is p was h = absurd (clash (in_literal k fault) p (sym is ∙ was))

-- the end of the loop
pub builds-read : (R : Result (Words × ℕ) RecordFault) (r : Record) (at : ℕ) → R ≡ Ok (literals r, at) → Builds R (Ok at) r
builds-read R r at e = rw e (refl, refl)

-- one turn of the loop over literals, where k of them stand before
module _ (count k : ℕ) (before : Words) (input : List ℕ) (at : ℕ) (after : Words) (answer : Result (ℕ × ℕ) LiteralFault) (adds : Adds (read_literal before input at) before answer after)
    (r : Result (ℕ × ℕ) RecordFault) (is : r ≡ then (in_literal k) answer (λ p. Ok p)) (h : k < count) (held : len before ≡ k) (all : Result (Words × ℕ) RecordFault) (left : read_literals (count - k) before input at ≡ all) where
  pub turn-stopped : (told : RecordFault) → r ≡ Err told → (x : Record) → Builds all (Err told) x
  turn-stopped told was x =
      let s = stopped before input at after k (read_literal before input at) refl answer adds r is told was in
      let fault = literals-fault (count - k) before input at s.0 (omega arith) s.1 in
      let same : in_literal (len before) s.0 ≡ told = ap (λ (n : ℕ). in_literal n s.0) held ∙ sym s.2 in
      let end : all ≡ Err told = sym left ∙ fault ∙ ap Err same in
      rw end refl

  pub turn-more : (next stood : ℕ) → r ≡ Ok (next, stood) → (len after ≡ k + 1) × (stood ≡ variables after) × (read_literals (count - (k + 1)) after input next ≡ all)
  turn-more next stood was =
      let f = further before input at after k (read_literal before input at) refl answer adds r is next stood was in
      let more = literals-more (count - k) before input at f.literal next (omega arith) f.read in
      let less : count - (k + 1) ≡ count - k - 1 = omega arith in (
        ap len f.longer ∙ len-push before f.literal ∙ ap (λ (n : ℕ). n + 1) held,
        f.counts,
        rw less (ap (λ (ls : Words). read_literals (count - k - 1) ls input next) f.longer ∙ sym more ∙ left),
      )
