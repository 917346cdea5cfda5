-- What a place word means, and place words as a kind.
use Rattle.std.specs.Prelude.{◌≡◌, ◌≤◌, [], Ok, Err, Result}
use Rattle.bounded.specs.Elems.{elems}
use Rattle.class.specs.declared.kind.Refusal.{Refusal}
use Rattle.class.specs.Kinds.{Subject}
use Rattle.term.specs.Coding.{hd, decode}
use Rattle.term.specs.Joins.{join}
use Rattle.term.specs.Lawful.{Narrow}
use Rattle.term.specs.Words.{Word, size, Covers}
use Rattle.place.specs.declared.placed.PlaceWord.{PlaceWord}

-- the word that its nodes stand for
abbrev pub meaning : PlaceWord → Word
meaning p = hd (decode (elems p.nodes))

-- joining leaves the join of the two words, and never refuses
abbrev pub Joining : (p q : PlaceWord) → Result (Unit {0}) Refusal → (r : PlaceWord) → Type 0
Joining p q (Ok _) r = meaning r ≡ (join (meaning p) (meaning q) []).0
Joining p q (Err e) r = ⊥

-- the members are all words, and a place word holds one of at most 64 nodes and 8 places anywhere; every place word is
-- tidy and stays when it is tidied, and no join is refused
abbrev pub places : Subject PlaceWord
places = record {
  member = Word;
  above = Covers;
  within = λ w. (size w ≤ 64) × Narrow w;
  means = meaning;
  tidy = λ _. Unit {0};
  refusal = λ _ _. record { number = 11 };
  tidies = λ p q. meaning q ≡ meaning p;
  joins = Joining;
}
