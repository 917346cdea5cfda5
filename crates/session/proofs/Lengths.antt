-- How long the texts of a session are.
use Rattle.std.proofs.Common.{◌≡◌, ℕ, zero, suc, ◌+◌, ◌-◌, ◌*◌, ◌<◌, ◌≤◌, Bool, true, false, ltb, leb, List, [], ◌∷◌, ◌++◌, length, Some, None, Ok, Err, codes, decimal, Option, Result, refl, ap, ◌∙◌, arith, length-append, append-nil}
use Rattle.std.specs.List.{between, flat_map}
use Rattle.std.proofs.lemmas.Bool.{ltb-true, leb-true}
use Rattle.std.proofs.lemmas.Fmt.{length-decimal-le}
use Rattle.std.proofs.lemmas.List.Edits.{length-between}
use Rattle.class.specs.declared.classes.Class.{Class}
use Rattle.class.specs.declared.kind.Refusal.{Refusal}
use Rattle.entries.specs.Entries.{entry_at}
use Rattle.entries.specs.Lines.{bad_line}
use Rattle.entries.proofs.Bounds.{EntryBy, entry_by}
use Rattle.listing.specs.Reduced.{hex}
use Rattle.number.specs.Faults as numbers
use Rattle.number.specs.declared.fault.NumberFault.{NumberFault}
use Rattle.record.specs.Faults.{told}
use Rattle.record.specs.Reads.{clause_form, read_record}
use Rattle.record.specs.Records.{literals}
use Rattle.record.specs.declared.clause.Record.{Record}
use Rattle.record.specs.declared.fault.RecordFault.{RecordFault}
use Rattle.record.proofs.Lengths.{form-within}
use Rattle.term.specs.Words.{Words}
use Rattle.session.specs.Answers.{Fits}
use Rattle.session.specs.Lines.{refused_line, line_text, rule_line}
use Rattle.session.specs.Sessions.{Met, in_hand, Takes, Turn, Leads, Ended, Onward, Either, Entries, Tells}
use Rattle.session.specs.declared.lines.Line.{Line}
use Rattle.session.specs.declared.lines.Line.TheVariants.{Bad}
use Rattle.session.proofs.Bounds.{number-few, record-few, RecordBy, record-by}

pub length-hex : (bytes : List ℕ) → length (hex bytes) ≡ 2 * length bytes
unfolding hex
length-hex [] = refl
length-hex (b ∷ bytes) = omega (arith, length-hex bytes)

pub length-bad : (question byte : ℕ) → length (bad_line question byte) ≡ 9 + (length (decimal question) + length (decimal byte))
unfolding bad_line
length-bad question byte = omega (arith, length-append (decimal question) (codes " at " ++ (decimal byte ++ codes "\n")), length-append (decimal byte) (codes "\n"))

pub length-refused : (number : ℕ) → length (refused_line number) ≡ 9 + length (decimal number)
unfolding refused_line
length-refused number = omega (arith, length-append (decimal number) (codes "\n"))

pub length-rule : (o : Option (Class Record)) (c : Class Record) → o ≡ Some c → length (rule_line o) ≡ 6 + 2 * length (clause_form (literals c.rule))
unfolding rule_line
length-rule o c e =
    let form = clause_form (literals c.rule) in
    ap (λ (p : Option (Class Record)). length (rule_line p)) e ∙ omega (arith, length-append (hex form) (codes "\n"), length-hex form)

pub length-no-rule : (o : Option (Class Record)) → o ≡ None → length (rule_line o) ≡ 8
unfolding rule_line
length-no-rule o e = ap (λ (p : Option (Class Record)). length (rule_line p)) e

-- a line has at most 14 bytes
bad-short : (question byte : ℕ) → question ≤ 9 → byte ≤ 4096 → length (bad_line question byte) ≤ 14
bad-short question byte q b = omega (arith, length-bad question byte, length-decimal-le 1 question (omega arith) (omega arith) (omega arith), length-decimal-le 4 byte (omega arith) (omega arith) (omega arith))

pub bad-fits : (question byte at room : ℕ) → question < 100 → byte < 10000 → at + 15 ≤ room → at + length (bad_line question byte) ≤ room
bad-fits question byte at room q b h =
    omega (arith, length-bad question byte, length-decimal-le 2 question (omega arith) (omega arith) (omega arith), length-decimal-le 4 byte (omega arith) (omega arith) (omega arith))

pub short-fault : (fault : NumberFault) (question byte : ℕ) → question ≡ (numbers.told fault).0 → byte ≤ 4096 → length (line_text (Bad question byte)) ≤ 14
short-fault fault question byte q b = bad-short question byte (omega (arith, q, number-few fault)) b

short-takes : (l : Option Met) (x : Record) (line : Line) (m : Option Met) → Takes l x line m → length (line_text line) ≤ 14
short-takes None x line None t = absurd t
short-takes None x line (Some m) t = rw t.3 (omega arith)
short-takes (Some l) x line None t = absurd t
short-takes (Some l) x line (Some m) (Ok o, a, f, g, i) = rw i (omega arith)
short-takes (Some l) x line (Some m) (Err e, a, f, g, i) =
    let eleven : e.number ≡ 11 = ap (λ (r : Refusal). r.number) a.1.1 in
    rw i (omega (arith, length-refused e.number, length-decimal-le 2 e.number (omega arith) (omega arith) (omega arith)))

short-read : (start : ℕ) (bytes : List ℕ) (r : Result Words RecordFault) → RecordBy bytes r → (l : Option Met) (line : Line) (m : Option Met) → start + length bytes ≤ 4096 → Turn start r l line m → length (line_text line) ≤ 14
short-read start bytes (Ok ls) by l line m h t = short-takes l t.0 line m t.2
short-read start bytes (Err fault) by l line m h t = rw t.0 (bad-short (told fault).0 (start + (told fault).1) (record-few fault) (omega arith))

pub short-turn : (start : ℕ) (bytes : List ℕ) (l : Option Met) (line : Line) (m : Option Met) → start + length bytes ≤ 4096 → Turn start (read_record bytes) l line m → length (line_text line) ≤ 14
short-turn start bytes l line m h t = short-read start bytes (read_record bytes) (record-by bytes) l line m h t

-- the rule's line has at most 3,084
pub rule-short : (o : Option (Class Record)) → length (rule_line o) ≤ 3084
rule-short None = omega (arith, length-no-rule None refl)
rule-short (Some c) = omega (arith, length-rule (Some c) c refl, form-within c.rule)

-- so the lines of all entries have at most 14 bytes for each byte of the input
abbrev Small : (input : List ℕ) (at : ℕ) → Leads → Type 0
Small input at one = (l : Option Met) (lines : List Line) (m : Option Met) → one l lines m → length (flat_map line_text lines) ≤ 14 * (length input - at)

small-ended : (input : List ℕ) (at : ℕ) → Small input at Ended
small-ended input at l lines m e = rw e.0 (omega arith)

small-onward : (input : List ℕ) (at : ℕ) (r : Result (ℕ × ℕ) NumberFault) → EntryBy input at r → length input ≤ 4096 → at < length input → (others : (at : ℕ) → Leads) → ((at : ℕ) → Small input at (others at)) → Small input at (Onward input r others)
small-onward input at (Ok p) by short h others k l lines m e =
    let bytes = between p.0 p.1 input in
    let here = short-turn p.0 bytes l e.0 e.1 (omega (arith, by.1, by.2, length-between input p.0 p.1 by.2)) e.3 in
    let rest = k p.1 e.1 e.2 m e.4 in
    rw e.5 (omega (arith, by.0, by.1, by.2, here, rest, length-append (line_text e.0) (flat_map line_text e.2)))
small-onward input at (Err fault) by short h others k l lines m e =
    let one = Bad (numbers.told fault).0 (numbers.told fault).1 in
    rw e.0 (omega (arith, short-fault fault (numbers.told fault).0 (numbers.told fault).1 refl (omega arith), ap length (append-nil (line_text one))))

small-either : (input : List ℕ) (at : ℕ) (b : Bool) (one other : Leads) → (b ≡ true → Small input at one) → Small input at other → Small input at (Either b one other)
small-either input at true one other k j = k refl
small-either input at false one other k j = j

small-entries : (turns : ℕ) (input : List ℕ) (at : ℕ) → length input ≤ 4096 → Small input at (Entries turns input at)
unfolding Entries
small-entries zero input at short = small-ended input at
small-entries (suc turns) input at short =
    small-either input at (ltb at (length input)) (Onward input (entry_at input at) (Entries turns input)) Ended
    (λ h. small-onward input at (entry_at input at) (entry_by input at) short (ltb-true at (length input) h) (Entries turns input) (λ n. small-entries turns input n short))
    (small-ended input at)

small-text : (b : Bool) (input text : List ℕ) → leb (length input) 4096 ≡ b → Tells input text b → length text ≤ 61440
small-text true input text e t =
    let short = leb-true (length input) 4096 e in
    let lines = flat_map line_text t.0 in
    rw t.3 (omega (arith, length-append lines (rule_line (in_hand t.1)), small-entries (length input) input 0 short None t.0 t.1 t.2, rule-short (in_hand t.1)))
small-text false input text e t = rw t (omega (arith, bad-fits 14 4096 0 61440 (omega arith) (omega arith) (omega arith)))

pub fits : (input : List ℕ) → Fits input
fits input text t = small-text (leb (length input) 4096) input text refl t
