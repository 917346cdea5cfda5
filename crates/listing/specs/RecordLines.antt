-- The listing of a record.
use Rattle.std.specs.Prelude.{ℕ, List, Option, Result}
use Rattle.term.specs.Words.{Words}
use Rattle.record.specs.declared.fault.RecordFault.{RecordFault}
use Rattle.record.specs.Faults.{told, sentence}
use Rattle.listing.specs.FaultLines.{layered_line, told_of}
use Rattle.listing.specs.Shown.{shown_clause}

abbrev pub record_fault_line : RecordFault → List ℕ
record_fault_line fault = layered_line (told fault) (sentence fault)

-- the text, and the fault, if there is one
unfoldable pub record_listed : Result Words RecordFault → List ℕ × Option RecordFault
record_listed r = told_of shown_clause record_fault_line r
