-- Reading a record: the questions, literal by literal, in the order in which they are asked.
use Rattle.std.specs.Prelude.{◌≡◌, ℕ, zero, suc, ◌-◌, ◌/◌, ◌%◌, ◌<◌, cond, List, [], ◌∷◌, ◌++◌, length, take, Ok, Err, Result, ◌==◌, ◌≢◌, nat_le, nat_lt, All}
use Rattle.number.specs.Forms.{form}
use Rattle.number.specs.Reads.{read_number}
use Rattle.term.specs.Coding.{code, codes, decode, word_at}
use Rattle.term.specs.Words.{Word, app, Words, nil, cons, ◌+++◌, len, sizes}
use Rattle.term.specs.declared.node.Node.{Node}
use Rattle.term.specs.declared.node.Symbol.{Symbol}
use Rattle.term.specs.declared.node.Symbol.TheVariants.{Positive, Negative}
use Rattle.word.specs.Becomes.{Becomes}
use Rattle.word.specs.Packed.{packed}
use Rattle.word.specs.Reads.{read_words}
use Rattle.word.specs.Then.{then}
use Rattle.record.specs.declared.clause.Record.{Record}
use Rattle.record.specs.declared.fault.LiteralFault.{LiteralFault}
use Rattle.record.specs.declared.fault.LiteralFault.TheVariants.{Number as InNumber, Word as InWord, Places, Nodes, Repeated}
use Rattle.record.specs.declared.fault.RecordFault.{RecordFault}
use Rattle.record.specs.declared.fault.RecordFault.TheVariants.{Number, Literals, Literal, Left}
use Rattle.record.specs.declared.literal.Head.{Head}
use Rattle.record.specs.Clauses.{variables, stands, Clause}
use Rattle.record.specs.Faults.{literal_told}
use Rattle.record.specs.Records.{literals}

-- the words that begin at these places
abbrev pub words_from : List Node → List ℕ → Words
words_from nodes [] = nil
words_from nodes (i ∷ is) = cons (word_at nodes i) (words_from nodes is)

-- each place is below n
abbrev pub Inside : ℕ → List ℕ → Type 0
Inside n = All (λ i. i < n)

-- the predicate of a literal's first number: an even one is positive, an odd one negative
abbrev pub predicate_of : ℕ → Symbol
predicate_of value = cond (value % 2 == 0) (Positive (value / 2)) (Negative (value / 2))

-- a literal's predicate and count of places, read from `at` on, where so many nodes are held: is there a number, is this
-- node within 256, is there a count, is it at most 8?
unfoldable pub head_at : (held : ℕ) → List ℕ → (at : ℕ) → Result Head LiteralFault
head_at held input at =
    then InNumber (read_number input at) (λ p.
    cond (nat_lt held 256)
    (then InNumber (read_number input p.1) (λ q.
    cond (nat_le q.0 8) (Ok (record { symbol = predicate_of p.0; places = q.0; next = q.1 })) (Err (Places p.1))))
    (Err (Nodes at)))

-- the finished literal, which begins at `at`: does it differ from all before it?
abbrev pub differs : (before : Words) (at : ℕ) (literal : Word) (to : ℕ) → Result (Word × ℕ) LiteralFault
differs before at literal to = cond (stands literal before) (Err (Repeated at)) (Ok (literal, to))

-- the literal that begins at `at`, after these: the literal and the place after it, or the fault
unfoldable pub read_literal : (before : Words) → List ℕ → (at : ℕ) → Result (Word × ℕ) LiteralFault
read_literal before input at =
    then (λ e. e) (head_at (sizes before) input at) (λ h.
    then InWord (read_words h.places (256 - suc (sizes before)) (variables before) input h.next []) (λ r.
    differs before at (app h.symbol (decode r.0)) r.1))

-- an answer is what the definition gives, and the nodes of the literal came last; after a fault those before still stand
abbrev pub Grows : Result (Word × ℕ) LiteralFault → (before : List Node) → Result (ℕ × ℕ) LiteralFault → (after : List Node) → Type 0
Grows (Ok p) before r after = (r ≡ Ok (p.1, variables (decode after))) × (after ≡ before ++ code p.0)
Grows (Err fault) before r after = (r ≡ Err fault) × (take (length before) after ≡ before)

-- an answer is what the definition gives, and the literal came last; after a fault the literals are those before
abbrev pub Adds : Result (Word × ℕ) LiteralFault → (before : Words) → Result (ℕ × ℕ) LiteralFault → (after : Words) → Type 0
Adds (Ok p) before r after = (r ≡ Ok (p.1, variables after)) × (after ≡ before +++ cons p.0 nil)
Adds (Err fault) before r after = (r ≡ Err fault) × (after ≡ before)

-- a literal's fault in its record
abbrev pub in_literal : (literal : ℕ) → LiteralFault → RecordFault
in_literal literal fault = Literal (record { literal = literal; byte = (literal_told fault).1; fault = fault })

-- so many literals more, after these
unfoldable pub read_literals : (count : ℕ) (before : Words) → List ℕ → (at : ℕ) → Result (Words × ℕ) RecordFault
read_literals zero before input at = Ok (before, at)
read_literals (suc count) before input at =
    then (in_literal (len before)) (read_literal before input at) (λ r. read_literals count (before +++ cons r.0 nil) input r.1)

-- an answer is what the definition gives: the place after the literals read, which the record holds; or the fault
abbrev pub Builds : Result (Words × ℕ) RecordFault → Result ℕ RecordFault → (after : Record) → Type 0
Builds (Ok p) (Ok to) after = (literals after ≡ p.0) × (to ≡ p.1)
Builds (Ok p) (Err fault) after = ⊥
Builds (Err fault) (Ok to) after = ⊥
Builds (Err fault) (Err told) after = told ≡ fault

-- a count of at most 16, so many literals, and the input used up: the literals, or the fault
unfoldable pub read_record : List ℕ → Result Words RecordFault
read_record input =
    then Number (read_number input 0) (λ p.
    cond (nat_le p.0 16)
    (then (λ e. e) (read_literals p.0 nil input p.1) (λ r. cond (nat_lt r.1 (length input)) (Err (Left r.1)) (Ok r.0)))
    (Err (Literals 0)))

-- the packed form of a clause: its count of literals, and its nodes
abbrev pub clause_form : Words → List ℕ
clause_form ls = form (len ls) ++ packed (codes ls)

-- the answer is what the definition gives; the record holds the literals read, or after a fault it is the one before
abbrev pub Reads : Result Words RecordFault → (before : Record) → Result (Unit {0}) RecordFault → (after : Record) → Type 0
Reads = Becomes literals

-- the input was the form of the clause read, so it is written back as the same bytes; or it is the form of no clause that
-- a record can hold
abbrev pub Exactly : List ℕ → Result (Unit {0}) RecordFault → (after : Record) → Type 0
Exactly input (Ok _) after = Clause (literals after) × (clause_form (literals after) ≡ input)
Exactly input (Err _) after = (ls : Words) → Clause ls → clause_form ls ≢ input
