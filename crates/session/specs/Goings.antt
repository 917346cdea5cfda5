-- What is in hand between two entries.
use Rattle.std.specs.Prelude.{◌≡◌, ℕ, ◌≤◌, List, Ok, Option}
use Rattle.std.specs.List.{flat_map}
use Rattle.class.specs.declared.classes.Class.{Class}
use Rattle.number.specs.Writes.{Wrote}
use Rattle.record.specs.declared.clause.Record.{Record}
use Rattle.session.specs.Lines.{line_text}
use Rattle.session.specs.Sessions.{Met, in_hand, Gives}
use Rattle.session.specs.declared.lines.Line.{Line}

-- whatever the class in hand met before, it met after what the step says
abbrev pub Goes : (before : Option (Class Record)) → (Option Met → Option Met → Type 0) → (after : Option (Class Record)) → Type 0
Goes before Step after = (l : Option Met) → in_hand l ≡ before → (m : Option Met) × (in_hand m ≡ after) × Step l m

-- the lines of the input stand at the start of the buffer, up to `to`, and this class is in hand; there is room for the last line
pub record Lined (input : List ℕ) (class : Option (Class Record)) (before : List ℕ) (to : ℕ) (after : List ℕ) : Type 0 where
  pub lines : List Line
  pub met : Option Met
  pub hand : in_hand met ≡ class
  pub told : Gives input lines met
  pub wrote : Wrote (flat_map line_text lines) 0 before (Ok to) after
  pub room : to ≤ 57344
