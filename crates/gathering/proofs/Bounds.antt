-- The byte of a place word's fault lies within the bytes read, or at their end.
use Rattle.std.proofs.Common.{ℕ, ◌≤◌, ltb, List, [], length, Ok, Err, Result, arith}
use Rattle.std.proofs.lemmas.Bool.{cond_both}
use Rattle.entries.proofs.Bounds.{then-holds, WordsBy, words-by}
use Rattle.word.specs.Reads.{read_words}
use Rattle.term.specs.declared.node.Node.{Node}
use Rattle.place.specs.declared.fault.PlaceFault.{PlaceFault}
use Rattle.place.specs.declared.fault.PlaceFault.TheVariants.{Word}
use Rattle.place.specs.Faults.{told}
use Rattle.place.specs.Packing.{read_place}

module _ (input : List ℕ) where
  abbrev pub PlaceBy : Result (List Node) PlaceFault → Type 0
  PlaceBy (Ok nodes) = Unit {0}
  PlaceBy (Err fault) = (told fault).1 ≤ length input

  pub place-by : PlaceBy (read_place input)
  unfolding read_place
  place-by = then-holds (WordsBy input) PlaceBy Word (read_words 1 64 0 input 0 []) _ (words-by input 1 64 0 0 [] (omega arith)) (λ p b. cond_both (ltb p.1 (length input)) _ _ PlaceBy (λ _. b) (λ _. tt)) (λ e b. b)
