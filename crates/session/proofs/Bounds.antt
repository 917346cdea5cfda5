-- The byte of a record's fault lies within the bytes read, or at their end; and its question is one of the first nine.
use Rattle.std.proofs.Common.{ℕ, zero, suc, ◌-◌, ◌≤◌, Bool, true, false, cond, ltb, leb, List, [], length, Ok, Err, Result, arith}
use Rattle.std.proofs.lemmas.Bool.{cond_both}
use Rattle.entries.proofs.Bounds.{NumberBy, number_by, then-holds, WordsBy, words-by}
use Rattle.number.specs.declared.fault.NumberFault.{NumberFault}
use Rattle.number.specs.declared.fault.NumberFault.TheVariants.{Missing, TooLarge, Padded}
use Rattle.number.specs.Faults as numbers
use Rattle.number.specs.Reads.{read_number}
use Rattle.term.specs.Words.{Word, app, Words, nil, cons, ◌+++◌, sizes, len}
use Rattle.term.specs.Coding.{decode}
use Rattle.word.specs.declared.fault.WordFault.{WordFault}
use Rattle.word.specs.declared.fault.WordFault.TheVariants as word
use Rattle.word.specs.Faults as words
use Rattle.word.specs.Reads.{read_words}
use Rattle.word.specs.Then.{then}
use Rattle.record.specs.declared.fault.LiteralFault.{LiteralFault}
use Rattle.record.specs.declared.fault.LiteralFault.TheVariants as inner
use Rattle.record.specs.declared.fault.RecordFault.{RecordFault}
use Rattle.record.specs.declared.fault.RecordFault.TheVariants.{Number, Literals, Literal, Left}
use Rattle.record.specs.Clauses.{variables, stands}
use Rattle.record.specs.Faults.{literal_told, told}
use Rattle.record.specs.Reads.{head_at, read_literal, in_literal, read_literals, read_record}

-- the question
pub number-few : (fault : NumberFault) → (numbers.told fault).0 ≤ 9
number-few (Missing end) = omega arith
number-few (TooLarge first) = omega arith
number-few (Padded first) = omega arith

word-few : (fault : WordFault) → (words.told fault).0 ≤ 9
word-few (word.Number fault) = number-few fault
word-few (word.Places first) = omega arith
word-few (word.Nodes first) = omega arith
word-few (word.Order first) = omega arith

literal-few : (fault : LiteralFault) → (literal_told fault).0 ≤ 9
literal-few (inner.Number fault) = number-few fault
literal-few (inner.Word fault) = word-few fault
literal-few (inner.Places first) = omega arith
literal-few (inner.Nodes first) = omega arith
literal-few (inner.Repeated first) = omega arith

pub record-few : (fault : RecordFault) → (told fault).0 ≤ 9
record-few (Number fault) = number-few fault
record-few (Literals first) = omega arith
record-few (Literal place) = literal-few place.fault
record-few (Left first) = omega arith

-- the byte
module _ (input : List ℕ) where
  -- what is read ends by the end of the input, and so does the byte of its fault
  abbrev EndsBy : {H : Type 0} → Result H LiteralFault → (next : H → ℕ) → Type 0
  EndsBy (Ok h) next = next h ≤ length input
  EndsBy (Err fault) next = (literal_told fault).1 ≤ length input

  record HeadBy {H : Type 0} (s : Result H LiteralFault) (next : H → ℕ) : Type 0 where
    ends : EndsBy s next

  head-either : {H : Type 0} {next : H → ℕ} (b : Bool) (x y : Result H LiteralFault) → HeadBy x next → HeadBy y next → HeadBy (cond b x y) next
  head-either true x y p q = p
  head-either false x y p q = q

  head-then : {H : Type 0} {next : H → ℕ} (at : ℕ) (s : Result (ℕ × ℕ) NumberFault) (on : ℕ × ℕ → Result H LiteralFault)
      → NumberBy at (length input) s → ((p : ℕ × ℕ) → p.1 ≤ length input → HeadBy (on p) next) → HeadBy (then inner.Number s on) next
  head-then at (Ok p) on h k = k p h.1
  head-then at (Err e) on h k = record { ends = h }

  head-by : (held at : ℕ) → at ≤ length input → HeadBy (head_at held input at) (λ h. h.next)
  unfolding head_at
  head-by held at h =
      head-then at (read_number input at) _ (number_by input at)
      (λ p b. head-either (ltb held 256) _ _
      (head-then p.1 (read_number input p.1) _ (number_by input p.1) (λ q d. head-either (leb q.0 8) _ _ (record { ends = d }) (record { ends = b })))
      (record { ends = h }))

  abbrev LiteralBy : Result (Word × ℕ) LiteralFault → Type 0
  LiteralBy (Ok p) = p.1 ≤ length input
  LiteralBy (Err fault) = (literal_told fault).1 ≤ length input

  literal-then : {H : Type 0} {next : H → ℕ} (s : Result H LiteralFault) (on : H → Result (Word × ℕ) LiteralFault) → HeadBy s next → ((h : H) → next h ≤ length input → LiteralBy (on h)) → LiteralBy (then (λ e. e) s on)
  literal-then (Ok h) on b k = k h b.ends
  literal-then (Err e) on b k = b.ends

  literal-by : (before : Words) (at : ℕ) → at ≤ length input → LiteralBy (read_literal before input at)
  unfolding read_literal
  literal-by before at h =
      literal-then (head_at (sizes before) input at) _ (head-by (sizes before) at h)
      (λ d b. then-holds (WordsBy input) LiteralBy inner.Word (read_words d.places (256 - suc (sizes before)) (variables before) input d.next []) _
      (words-by input d.places (256 - suc (sizes before)) (variables before) d.next [] b)
      (λ r k. cond_both (stands (app d.symbol (decode r.0)) before) _ _ LiteralBy (λ _. h) (λ _. k))
      (λ e k. k))

  abbrev LiteralsBy : Result (Words × ℕ) RecordFault → Type 0
  LiteralsBy (Ok p) = p.1 ≤ length input
  LiteralsBy (Err fault) = (told fault).1 ≤ length input

  literals-by : (count : ℕ) (before : Words) (at : ℕ) → at ≤ length input → LiteralsBy (read_literals count before input at)
  unfolding read_literals
  literals-by zero before at h = h
  literals-by (suc count) before at h =
      then-holds LiteralBy LiteralsBy (in_literal (len before)) (read_literal before input at) _ (literal-by before at h)
      (λ r k. literals-by count (before +++ cons r.0 nil) r.1 k) (λ e k. k)

  abbrev pub RecordBy : Result Words RecordFault → Type 0
  RecordBy (Ok ls) = Unit {0}
  RecordBy (Err fault) = (told fault).1 ≤ length input

  pub record-by : RecordBy (read_record input)
  unfolding read_record
  record-by =
      then-holds (NumberBy 0 (length input)) RecordBy Number (read_number input 0) _ (number_by input 0)
      (λ p b. cond_both (leb p.0 16) _ _ RecordBy
      (λ _. then-holds LiteralsBy RecordBy (λ e. e) (read_literals p.0 nil input p.1) _ (literals-by p.0 nil p.1 b.1)
      (λ r k. cond_both (ltb r.1 (length input)) _ _ RecordBy (λ _. k) (λ _. tt)) (λ e k. k))
      (λ _. omega arith))
      (λ e b. b)
