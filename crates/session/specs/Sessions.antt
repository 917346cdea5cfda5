-- A session: what the entries of an input lead to, and the text that tells it.
use Rattle.std.specs.Prelude.{◌≡◌, ℕ, zero, suc, ◌+◌, Bool, true, false, List, [], ◌∷◌, ◌++◌, length, Some, None, Ok, Err, Option, Result, nat_le, nat_lt}
use Rattle.std.specs.List.{between, flat_map}
use Rattle.class.specs.Calls.{Begun, Admitted}
use Rattle.class.specs.Runs.{Call, admit}
use Rattle.class.specs.declared.classes.Class.{Class}
use Rattle.class.specs.declared.kind.Refusal.{Refusal}
use Rattle.entries.specs.Entries.{entry_at}
use Rattle.number.specs.Faults as numbers
use Rattle.number.specs.declared.fault.NumberFault.{NumberFault}
use Rattle.record.specs.Faults.{told}
use Rattle.record.specs.Kind.{records}
use Rattle.record.specs.Reads.{read_record}
use Rattle.record.specs.Records.{literals}
use Rattle.record.specs.declared.clause.Record.{Record}
use Rattle.record.specs.declared.fault.RecordFault.{RecordFault}
use Rattle.term.specs.Words.{Words}
use Rattle.session.specs.Lines.{line_text, admitted, rule_line}
use Rattle.session.specs.declared.lines.Line.{Line}
use Rattle.session.specs.declared.lines.Line.TheVariants.{Begun as BegunLine, Bad}

-- a class, with the record that it began with and the calls that it met since
pub record Met : Type 0 where
  pub first : Record
  pub calls : List (Call Record)
  pub class : Class Record

-- the class in hand: none before the first record
abbrev pub in_hand : Option Met → Option (Class Record)
in_hand None = None
in_hand (Some m) = Some m.class

-- a lawful record: the first begins a class, and any other is admitted by it or refused
abbrev pub Takes : (before : Option Met) → Record → Line → (after : Option Met) → Type 0
Takes None x line None = ⊥
Takes None x line (Some m) = (m.first ≡ x) × (m.calls ≡ []) × Begun records x m.class × (line ≡ BegunLine)
Takes (Some l) x line None = ⊥
Takes (Some l) x line (Some m) =
    (answer : Result (Unit {0}) Refusal)
    × Admitted records l.class x answer m.class × (m.first ≡ l.first) × (m.calls ≡ l.calls ++ (admit x answer ∷ [])) × (line ≡ admitted answer)

-- an entry whose bytes begin at `start` and are read so: its record is taken, or its fault is told
abbrev pub Turn : (start : ℕ) → Result Words RecordFault → (before : Option Met) → Line → (after : Option Met) → Type 0
Turn start (Ok ls) before line after = (x : Record) × (literals x ≡ ls) × Takes before x line after
Turn start (Err fault) before line after = (line ≡ Bad (told fault).0 (start + (told fault).1)) × (after ≡ before)

-- what some entries lead to, with their lines
abbrev pub Leads : Type 1
Leads = (before : Option Met) → List Line → (after : Option Met) → Type 0

-- no entry
abbrev pub Ended : Leads
Ended before lines after = (lines ≡ []) × (after ≡ before)

-- an entry, and then those after it; the fault of a length ends the entries
abbrev pub Onward : List ℕ → Result (ℕ × ℕ) NumberFault → (others : (at : ℕ) → Leads) → Leads
Onward input (Ok p) others before lines after =
    (line : Line) × (mid : Option Met) × (more : List Line) × Turn p.0 (read_record (between p.0 p.1 input)) before line mid × others p.1 mid more after × (lines ≡ line ∷ more)
Onward input (Err fault) others before lines after = (lines ≡ Bad (numbers.told fault).0 (numbers.told fault).1 ∷ []) × (after ≡ before)

abbrev pub Either : Bool → Leads → Leads → Leads
Either true one other = one
Either false one other = other

-- the entries from `at` on; each turn reads a byte at least, so as many turns as there are bytes will do
unfoldable pub Entries : (turns : ℕ) → List ℕ → (at : ℕ) → Leads
Entries zero input at = Ended
Entries (suc turns) input at = Either (nat_lt at (length input)) (Onward input (entry_at input at) (Entries turns input)) Ended

-- the lines of an input, and what is in hand at its end
abbrev pub Gives : List ℕ → List Line → Option Met → Type 0
Gives input lines last = Entries (length input) input 0 None lines last

-- 14, has the input at most 4,096 bytes? tells the first byte beyond them
abbrev pub too_long : Line
too_long = Bad 14 4096

-- the text of an input: its lines and last the rule, or that it is too long
abbrev pub Tells : List ℕ → List ℕ → (short : Bool) → Type 0
Tells input text true = (lines : List Line) × (last : Option Met) × Gives input lines last × (text ≡ flat_map line_text lines ++ rule_line (in_hand last))
Tells input text false = text ≡ line_text too_long

abbrev pub Text : (input text : List ℕ) → Type 0
Text input text = Tells input text (nat_le (length input) 4096)
