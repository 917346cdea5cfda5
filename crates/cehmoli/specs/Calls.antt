-- What the calls answer, and what then stands in what was lent to them.
use Rattle.std.specs.Prelude.{◌≡◌, ℕ, ◌<◌, List, [], All, take, Some, None, Ok, Err, Option, Result, ◌⊎◌, IfOk, IfSome}
use Rattle.class.specs.Kinds.{Joined}
use Rattle.class.specs.declared.kind.Refusal.{Refusal}
use Rattle.clauses.specs.Clauses.{Covers, each}
use Rattle.number.specs.Faults.{no_room}
use Rattle.number.specs.Writes.{Wrote}
use Rattle.number.specs.declared.fault.NoRoom.{NoRoom}
use Rattle.record.specs.Kind.{records}
use Rattle.record.specs.Reads.{read_record, clause_form}
use Rattle.record.specs.Records.{literals}
use Rattle.record.specs.declared.clause.Record.{Record}
use Rattle.record.specs.declared.fault.RecordFault.{RecordFault}
use Rattle.session.specs.Answers.{Answers, no_buffer}
use Rattle.session.specs.declared.refusal.NoBuffer.{NoBuffer}
use Rattle.term.specs.Words.{Words, sizes}
use Rattle.witness.specs.Witness.{Witnessed, too_few_entries}
use Rattle.witness.specs.declared.witnesses.TooFewEntries.{TooFewEntries}
use Rattle.cehmoli.specs.Answers.{answered, none, refused, first_unread, second_unread}
use Rattle.cehmoli.specs.declared.answers.Answer.{Answer}
use Rattle.cehmoli.specs.declared.inputs.Both.{Both}
use Rattle.cehmoli.specs.declared.inputs.Unread.{Unread}
use Rattle.cehmoli.specs.declared.inputs.Unread.TheVariants.{First, Second}

-- an input is read: the record that it is, or the fault
abbrev pub ReadsOne : Result Words RecordFault → Result Record RecordFault → Type 0
ReadsOne r (Ok x) = r ≡ Ok (literals x)
ReadsOne r (Err e) = r ≡ Err e

-- two inputs are read: the records that they are; or the first is none; or the first is one, and the second is none
abbrev pub ReadsBoth : (first second : Result Words RecordFault) → Result (Unit {0}) Unread → (before after : Both) → Type 0
ReadsBoth first second (Ok _) before after = (first ≡ Ok (literals after.first)) × (second ≡ Ok (literals after.second))
ReadsBoth first second (Err (First e)) before after = (first ≡ Err e) × (literals after.first ≡ literals before.first) × (after.second ≡ before.second)
ReadsBoth first second (Err (Second e)) before after = (first ≡ Ok (literals after.first)) × (second ≡ Err e) × (literals after.second ≡ literals before.second)

-- of two records the call says `Of`; else it tells which input is no record, and what was lent stays
abbrev pub OfBoth : (first second : Result Words RecordFault) → Answer → (before after : List ℕ) → (Of : Words → Words → Type 0) → Type 0
OfBoth (Ok xs) (Ok ys) answer before after Of = Of xs ys
OfBoth (Ok xs) (Err e) answer before after Of = (answer ≡ second_unread e) × (after ≡ before)
OfBoth (Err e) second answer before after Of = (answer ≡ first_unread e) × (after ≡ before)

-- the rule covers the mount, or it does not
abbrev pub CoversAnswer : (rule mount : Words) → Answer → Type 0
CoversAnswer rule mount answer = ((answer ≡ answered 1) × Covers (each rule) (each mount)) ⊎ ((answer ≡ none) × (Covers (each rule) (each mount) → ⊥))

abbrev pub CoversCall : (rule mount : List ℕ) → Answer → Type 0
CoversCall rule mount answer = OfBoth (read_record rule) (read_record mount) answer [] [] (λ xs ys. CoversAnswer xs ys answer)

-- a witness: the count of variables, none, or a refusal
abbrev pub witness_answer : Result (Option ℕ) TooFewEntries → Answer
witness_answer (Ok (Some n)) = answered n
witness_answer (Ok None) = none
witness_answer (Err _) = refused too_few_entries

-- the list then begins with the witness, whose entries are nodes of the mount
abbrev pub WitnessAnswer : (rule mount : Words) → Answer → (before after : List ℕ) → Type 0
WitnessAnswer rule mount answer before after =
    (r : Result (Option ℕ) TooFewEntries)
    × Witnessed rule mount before r after × (answer ≡ witness_answer r) × IfOk r (λ a. IfSome a (λ n. All (λ q. q < sizes mount) (take n after)))

abbrev pub WitnessCall : (rule mount before : List ℕ) → Answer → (after : List ℕ) → Type 0
WitnessCall rule mount before answer after =
    OfBoth (read_record rule) (read_record mount) answer before after (λ xs ys. WitnessAnswer xs ys answer before after)

-- the packed form of a record is written, or refused
abbrev pub write_answer : Result ℕ NoRoom → Answer
write_answer (Ok n) = answered n
write_answer (Err _) = refused no_room

-- the join of two records, least over both: its packed form stands at the start of the buffer; or a refusal, and all stays
abbrev pub Packs : Result (Unit {0}) Refusal → Words → Answer → (before after : List ℕ) → Type 0
Packs (Ok _) zs answer before after = (w : Result ℕ NoRoom) × Wrote (clause_form zs) 0 before w after × (answer ≡ write_answer w)
Packs (Err e) zs answer before after = (answer ≡ refused e.number) × (after ≡ before)

abbrev pub JoinAnswer : (xs ys : Words) → Answer → (before after : List ℕ) → Type 0
JoinAnswer xs ys answer before after =
    (x : Record) × (y : Record) × (z : Record) × (r : Result (Unit {0}) Refusal) × (literals x ≡ xs) × (literals y ≡ ys) × Joined records x y r z × Packs r (literals z) answer before after

abbrev pub JoinCall : (first second before : List ℕ) → Answer → (after : List ℕ) → Type 0
JoinCall first second before answer after =
    OfBoth (read_record first) (read_record second) answer before after (λ xs ys. JoinAnswer xs ys answer before after)

-- a call is settled by its arguments: it has one answer, and leaves one thing in what was lent
abbrev pub Settled : (Answer → (after : List ℕ) → Type 0) → Type 0
Settled Call = (a b : Answer) (after other : List ℕ) → Call a after → Call b other → (a ≡ b) × (after ≡ other)

-- a session: the length of the text, or a refusal
abbrev pub session_answer : Result ℕ NoBuffer → Answer
session_answer (Ok n) = answered n
session_answer (Err _) = refused no_buffer

abbrev pub SessionAnswer : (input : List ℕ) → Answer → (before after : List ℕ) → Type 0
SessionAnswer input answer before after = (r : Result ℕ NoBuffer) × Answers input before r after × (answer ≡ session_answer r)
