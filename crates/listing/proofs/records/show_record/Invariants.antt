use Rattle.std.proofs.Common.{◌≡◌, ℕ, ◌++◌, drop, string_bytes, codes}
use Rattle.term.specs.Coding.{word_at}
use Rattle.listing.specs.Shown.{separated, shown}
use Rattle.listing.proofs.records.show_record.Given as goal

-- what is still to be added makes the text whole
abbrev pub invariant-loop-k : goal.invariant-loop-k
invariant-loop-k l =
    string_bytes l.text ++ separated (λ (i : ℕ). shown (word_at l.nodes i)) l.k (drop l.k l.starts)
    ≡ codes "{" ++ separated (λ (i : ℕ). shown (word_at l.nodes i)) 0 l.starts
