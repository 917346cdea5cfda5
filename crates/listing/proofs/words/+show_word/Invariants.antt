use Rattle.std.proofs.Common.{◌-◌, length, string_bytes}
use Rattle.listing.proofs.Showing.{Going}
use Rattle.listing.proofs.words.+show_word.Given as goal

-- the nodes left fall
abbrev pub decreases-show_word : goal.decreases-show_word
decreases-show_word l = length l.word.nodes.now - l.word.start

abbrev pub invariant-loop-n : goal.invariant-loop-n
invariant-loop-n l = Going l.word.nodes.now l.count l.n l.at l.initial.at (string_bytes l.text) (string_bytes l.initial.text)
