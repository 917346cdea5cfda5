-- The gathering of an input.
use Rattle.std.specs.Prelude.{◌≡◌, ℕ, zero, suc, ◌+◌, cond, List, [], ◌∷◌, ◌++◌, length, Ok, Err, codes, Result, nat_lt}
use Rattle.std.specs.List.{between}
use Rattle.class.specs.Kinds.{Least}
use Rattle.listing.specs.Lines.{after}
use Rattle.listing.specs.Shown.{shown}
use Rattle.number.specs.Faults as numbers
use Rattle.number.specs.declared.fault.NumberFault.{NumberFault}
use Rattle.place.specs.Faults.{told}
use Rattle.place.specs.Packing.{read_place}
use Rattle.place.specs.Places.{places}
use Rattle.place.specs.declared.fault.PlaceFault.{PlaceFault}
use Rattle.term.specs.Coding.{hd, decode}
use Rattle.term.specs.Lawful.{Numbered}
use Rattle.term.specs.Words.{Word, vars}
use Rattle.term.specs.declared.node.Node.{Node}
use Rattle.entries.specs.Entries.{entry_at}
use Rattle.entries.specs.Lines.{bad_line}
use Rattle.gathering.specs.Lines.{taken_line}

-- the lines before the rule, and the words taken, the latest first
abbrev pub Told : Type 0
Told = List ℕ × List Word

-- an entry whose bytes begin at `start` and are read so, where ms were taken before
abbrev pub one_entry : (start : ℕ) → List Word → Result (List Node) PlaceFault → Told
one_entry start ms (Ok nodes) = (taken_line ms, hd (decode nodes) ∷ ms)
one_entry start ms (Err fault) = (bad_line (told fault).0 (start + (told fault).1), ms)

-- an entry before the others
abbrev pub onward : Told → (List Word → Told) → Told
onward one next = after one.0 (next one.1)

-- the fault of a length ends the entries
abbrev pub go_on : List Word → (ℕ × ℕ → Told) → Result (ℕ × ℕ) NumberFault → Told
go_on ms next (Ok p) = next p
go_on ms next (Err fault) = (bad_line (numbers.told fault).0 (numbers.told fault).1, ms)

-- the entries from `at` on, where ms were taken before; each turn reads a byte at least, so as many turns as there are bytes will do
unfoldable pub gathered_from : (turns : ℕ) → List ℕ → (at : ℕ) → List Word → Told
gathered_from zero input at ms = ([], ms)
gathered_from (suc turns) input at ms =
    cond (nat_lt at (length input))
    (go_on ms (λ p. onward (one_entry p.0 ms (read_place (between p.0 p.1 input))) (gathered_from turns input p.1)) (entry_at input at))
    ([], ms)

-- the whole input
unfoldable pub gathered : List ℕ → Told
gathered input = gathered_from (length input) input 0 []

-- the text ends with the rule of what was taken: the least word over all of it, its variables numbered by their first standing
abbrev pub Ruled : Told → List ℕ → Type 0
Ruled (text, []) out = out ≡ text ++ codes "no rule\n"
Ruled (text, m ∷ ms) out =
    (w : Word) × Least places w (m ∷ ms) × Numbered 0 (vars w) × (out ≡ text ++ (codes "rule " ++ (shown w ++ codes "\n")))
