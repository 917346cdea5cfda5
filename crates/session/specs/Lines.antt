-- The lines of a session.
use Rattle.std.specs.Prelude.{ℕ, List, ◌++◌, Some, None, Ok, Err, codes, decimal, Option, Result}
use Rattle.class.specs.declared.classes.Class.{Class}
use Rattle.class.specs.declared.kind.Refusal.{Refusal}
use Rattle.entries.specs.Lines.{bad_line}
use Rattle.listing.specs.Reduced.{hex}
use Rattle.record.specs.Reads.{clause_form}
use Rattle.record.specs.Records.{literals}
use Rattle.record.specs.declared.clause.Record.{Record}
use Rattle.session.specs.declared.lines.Line.{Line}
use Rattle.session.specs.declared.lines.Line.TheVariants.{Begun, Taken, Refused, Bad}

unfoldable pub refused_line : (number : ℕ) → List ℕ
refused_line number = codes "refused " ++ (decimal number ++ codes "\n")

-- what a line says
abbrev pub line_text : Line → List ℕ
line_text Begun = codes "begun\n"
line_text Taken = codes "taken\n"
line_text (Refused number) = refused_line number
line_text (Bad question byte) = bad_line question byte

-- the line of a record that the class admitted or refused
abbrev pub admitted : Result (Unit {0}) Refusal → Line
admitted (Ok _) = Taken
admitted (Err e) = Refused e.number

-- the last line: the packed form of the rule in hexadecimal, or that there is none
unfoldable pub rule_line : Option (Class Record) → List ℕ
rule_line None = codes "no rule\n"
rule_line (Some c) = codes "rule " ++ (hex (clause_form (literals c.rule)) ++ codes "\n")
