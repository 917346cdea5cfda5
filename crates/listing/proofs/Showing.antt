-- A word in legible form, place by place.
use Rattle.std.proofs.Common.{◌≡◌, ℕ, ◌+◌, ◌-◌, ◌<◌, ◌≤◌, List, ◌∷◌, ◌++◌, length, get_or, drop, sym, refl, ap, ◌∙◌, append_assoc, append-nil, add-one, arith}
use Rattle.term.specs.declared.node.Node.{Node}
use Rattle.term.specs.declared.node.Node.TheVariants.{Variable, Applied}
use Rattle.term.specs.Coding.{places_of, first, hd, tl, decode, Whole, words_at, word_at, Next}
use Rattle.term.specs.Words.{Words, nil, len}
use Rattle.term.proofs.Codings.{len-first, at_words, at-whole}
use Rattle.term.proofs.Walked.{Walked, first_step, walked-some, walked_on, walked-first, walked-last}
use Rattle.listing.specs.Shown.{symbol_name, node_name, opening, closing, shown, shown_from}

-- a word is shown as its node and then its places
node-shown : (x : Node) (nodes : List Node) → Whole (x ∷ nodes) → shown (hd (decode (x ∷ nodes))) ≡ node_name x ++ shown_from 0 (first (places_of x) (decode nodes))
unfolding shown decode Whole
node-shown (Variable x) nodes w = sym (append-nil (node_name (Variable x)))
node-shown (Applied s k) nodes w = ap (λ (n : ℕ). symbol_name s n ++ shown_from 0 (first k (decode nodes))) (len-first k (decode nodes) w.0)

from-nil : (n : ℕ) → shown_from n nil ≡ closing n
unfolding shown
from-nil n = refl

from_cons : (n m : ℕ) (us : Words) → 0 < m → 1 ≤ len us → shown_from n (first m us) ≡ opening n ++ (shown (hd us) ++ shown_from (n + 1) (first (m - 1) (tl us)))
unfolding shown
from_cons n m us p q = ap (shown_from n) (first_step m us p q) ∙ rw add-one

-- of the words in count places, those from place n on are still to be shown, from `at` on
pub record Going (nodes : List Node) (count n at start : ℕ) (text text0 : List ℕ) : Type 0 where
  pub walked : Walked nodes count (count - n) at start
  pub written : text ++ shown_from n (first (count - n) (words_at nodes at)) ≡ text0 ++ shown_from 0 (first count (words_at nodes start))

module _ (nodes : List Node) where
  pub going_on : (count n at at' start : ℕ) (text text1 text2 text0 : List ℕ) → n < count → Going nodes count n at start text text0 → Next nodes at at'
      → text1 ≡ text ++ opening n → text2 ≡ text1 ++ shown (word_at nodes at) → Going nodes count (n + 1) at' start text2 text0
  going_on count n at at' start text text1 text2 text0 h g next e f =
      let m = count - n in
      let less : count - (n + 1) ≡ m - 1 = omega arith in
      let some : 0 < m = omega arith in
      let rest = shown_from (n + 1) (first (m - 1) (tl (words_at nodes at))) in
      let here = from_cons n m (words_at nodes at) some (walked-some nodes count m at start some g.walked) in
      record {
        walked = walked_on nodes count m (count - (n + 1)) at at' start some less g.walked next;
        written =
            rw (less, next.rest)
            (ap (λ (t : List ℕ). t ++ rest) (f ∙ ap (λ (t : List ℕ). t ++ shown (word_at nodes at)) e)
            ∙ append_assoc (text ++ opening n) (shown (word_at nodes at)) rest
            ∙ append_assoc text (opening n) (shown (word_at nodes at) ++ rest)
            ∙ ap (λ (t : List ℕ). text ++ t) (sym here)
            ∙ g.written);
      }

  module _ (i : ℕ) (d : Node) (inside : i < length nodes) (whole : Whole nodes) (count : ℕ) (places : count ≡ places_of (get_or nodes i d)) where
    pub going-first : (text : List ℕ) → Going nodes count 0 (i + 1) (i + 1) text text
    going-first text = let z : count - 0 ≡ count = omega arith in record { walked = walked-first nodes i d inside count (count - 0) whole places z; written = rw z }

    pub going-last : (n at : ℕ) (text0 text1 text text2 : List ℕ) → count ≤ n → n ≤ count → Going nodes count n at (i + 1) text text1 → text1 ≡ text0 ++ node_name (get_or nodes i d) → text2 ≡ text ++ closing count
        → Next nodes i at × (text2 ≡ text0 ++ shown (word_at nodes i))
    going-last n at text0 text1 text text2 p q g e f =
        let none : count - n ≡ 0 = omega arith in
        let same : n ≡ count = omega arith in
        let all : text ++ closing n ≡ text1 ++ shown_from 0 (first count (words_at nodes (i + 1))) = ap (λ (t : List ℕ). text ++ t) (sym (from-nil n)) ∙ rw none at g.written in
        let name = node_name (get_or nodes i d) in (
          walked-last nodes i d inside count (count - n) at places none g.walked,
          f ∙ ap (λ (k : ℕ). text ++ closing k) (sym same) ∙ all
              ∙ ap (λ (t : List ℕ). t ++ shown_from 0 (first count (words_at nodes (i + 1)))) e
              ∙ append_assoc text0 name (shown_from 0 (first count (words_at nodes (i + 1))))
              ∙ ap (λ (t : List ℕ). text0 ++ t)
              (ap (λ (k : ℕ). name ++ shown_from 0 (first k (words_at nodes (i + 1)))) places
              ∙ sym (node-shown (get_or nodes i d) (drop (i + 1) nodes) (at-whole nodes i d inside whole))
              ∙ ap (λ (ws : Words). shown (hd ws)) (sym (at_words nodes i d inside))),
        )
