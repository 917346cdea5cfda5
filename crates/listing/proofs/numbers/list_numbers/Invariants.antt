use Rattle.std.proofs.Common.{◌≡◌, ℕ, ◌-◌, ◌≤◌, length, string_bytes}
use Rattle.listing.specs.Lines.{after}
use Rattle.listing.specs.Listed.{listed_from, listed}
use Rattle.listing.proofs.numbers.list_numbers.Given as goal

-- what is still to come makes the text the whole listing
abbrev pub invariant-loop-at : goal.invariant-loop-at
invariant-loop-at l =
    (l.at ≤ length l.input)
    × (l.count ≤ l.at)
    × ((turns : ℕ) × (length l.input - l.at ≤ turns) × (after (string_bytes l.text) (listed_from turns l.input l.at l.count) ≡ listed l.input))

abbrev pub decreases-loop-at : goal.decreases-loop-at
decreases-loop-at l = length l.input - l.at
