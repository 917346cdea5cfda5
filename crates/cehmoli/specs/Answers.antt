-- The answers of the calls: a kind, and a number with it.
use Rattle.std.specs.Prelude.{ℕ}
use Rattle.record.specs.Faults.{told}
use Rattle.record.specs.declared.fault.RecordFault.{RecordFault}
use Rattle.cehmoli.specs.declared.answers.Answer.{Answer}
use Rattle.cehmoli.specs.declared.inputs.Unread.{Unread}
use Rattle.cehmoli.specs.declared.inputs.Unread.TheVariants.{First, Second}

-- answered, with a number
abbrev pub answered : ℕ → Answer
answered n = record { kind = 0; value = n }

-- there is none: the rule does not cover the mount
abbrev pub none : Answer
none = record { kind = 1; value = 0 }

-- refused, with the number of the refusal
abbrev pub refused : ℕ → Answer
refused number = record { kind = 2; value = number }

-- the first input is no record, or the first one is and the second is not: the question of its fault
abbrev pub first_unread : RecordFault → Answer
first_unread fault = record { kind = 3; value = (told fault).0 }

abbrev pub second_unread : RecordFault → Answer
second_unread fault = record { kind = 4; value = (told fault).0 }

abbrev pub unread : Unread → Answer
unread (First fault) = first_unread fault
unread (Second fault) = second_unread fault
