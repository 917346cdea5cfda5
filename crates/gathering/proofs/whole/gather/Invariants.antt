use Rattle.std.proofs.Common.{◌≡◌, ℕ, ◌-◌, ◌≤◌, List, length, string_bytes}
use Rattle.term.specs.Words.{Word}
use Rattle.listing.specs.Lines.{after}
use Rattle.gathering.specs.Gathered.{gathered_from, gathered}
use Rattle.gathering.specs.States.{Gathers}
use Rattle.gathering.proofs.whole.gather.Given as goal

-- what is still to come makes the text all the lines before the rule
abbrev pub invariant-loop-at : goal.invariant-loop-at
invariant-loop-at l =
    (l.at ≤ length l.input)
    × ((ms : List Word) × Gathers ms l.gatherer.class
    × ((turns : ℕ) × (length l.input - l.at ≤ turns) × (after (string_bytes l.text) (gathered_from turns l.input l.at ms) ≡ gathered l.input)))

abbrev pub decreases-loop-at : goal.decreases-loop-at
decreases-loop-at l = length l.input - l.at
