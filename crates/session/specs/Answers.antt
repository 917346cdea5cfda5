-- What a session answers, and what it leaves in the buffer.
use Rattle.std.specs.Prelude.{◌≡◌, ℕ, ◌<◌, ◌≤◌, List, length, Some, Ok, Err, Result}
use Rattle.class.specs.Runs.{gathers}
use Rattle.generaliser.specs.Law.{Lawful}
use Rattle.number.specs.Writes.{Wrote}
use Rattle.session.specs.Sessions.{Met, Gives, Text}
use Rattle.session.specs.declared.lines.Line.{Line}
use Rattle.session.specs.declared.refusal.NoBuffer.{NoBuffer}

-- 13, has the buffer at least 61,440 bytes?
abbrev pub no_buffer : ℕ
no_buffer = 13

-- the text of the input stands at the start of the buffer, its length is answered, and beyond it the buffer stays
abbrev pub Written : (input before : List ℕ) → ℕ → (after : List ℕ) → Type 0
Written input before n after = (text : List ℕ) × Text input text × Wrote text 0 before (Ok n) after

-- so it is where the buffer is large enough; where it is too small, all of it stays
abbrev pub Answers : (input before : List ℕ) → Result ℕ NoBuffer → (after : List ℕ) → Type 0
Answers input before (Ok n) after = (61440 ≤ length before) × Written input before n after
Answers input before (Err _) after = (length before < 61440) × (after ≡ before)

-- an input has no two texts
abbrev pub OneText : List ℕ → Type 0
OneText input = (text other : List ℕ) → Text input text → Text input other → other ≡ text

-- a text fits into the buffer
abbrev pub Fits : List ℕ → Type 0
Fits input = (text : List ℕ) → Text input text → length text ≤ 61440

-- the class in hand at the end met its calls under the law: its answers are right, and its rule is tidy and least over the
-- records taken, as small as can be, and settled by what they are
abbrev pub UnderLaw : List ℕ → Type 0
UnderLaw input = (lines : List Line) (m : Met) → Gives input lines (Some m) → Lawful m.first m.calls (gathers m.class)
