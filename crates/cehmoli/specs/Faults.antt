-- What a read tells: nothing of a record, and all of a fault.
use Rattle.std.specs.Prelude.{◌≡◌, ℕ, Bool, true, false, Some, None, Ok, Err, Option, Result, Contains, Decides}
use Rattle.record.specs.Faults.{told}
use Rattle.record.specs.declared.fault.RecordFault.{RecordFault}
use Rattle.term.specs.Words.{Words}
use Rattle.word.specs.declared.fault.Layer.TheVariants.{Number, Word, Literal, Record}
use Rattle.cehmoli.specs.declared.faults.Fault.{Fault}

-- the input is a record
abbrev pub lawful : Fault
lawful = record { question = 0; byte = 0; has_literal = false; literal = 0; in_number = false; in_word = false; in_literal = false; in_record = false }

-- the literal in hand, or none
abbrev pub InHand : Option ℕ → (has : Bool) → (literal : ℕ) → Type 0
InHand None has literal = (has ≡ false) × (literal ≡ 0)
InHand (Some k) has literal = (has ≡ true) × (literal ≡ k)

-- the question that was answered with no, the byte, the literal in hand, and the layers
pub record Tells (e : RecordFault) (f : Fault) : Type 0 where
  pub question : f.question ≡ (told e).0
  pub byte : f.byte ≡ (told e).1
  pub in_hand : InHand (told e).2 f.has_literal f.literal
  pub number : Decides f.in_number (Contains (told e).3 Number)
  pub word : Decides f.in_word (Contains (told e).3 Word)
  pub literal : Decides f.in_literal (Contains (told e).3 Literal)
  pub record_too : Decides f.in_record (Contains (told e).3 Record)

abbrev pub ReadAnswer : Result Words RecordFault → Fault → Type 0
ReadAnswer (Ok _) f = f ≡ lawful
ReadAnswer (Err e) f = Tells e f
