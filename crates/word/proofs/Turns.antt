-- Reading words, node by node.
use Rattle.std.proofs.Common.{◌≡◌, ℕ, zero, suc, ◌+◌, ◌-◌, ◌/◌, ◌%◌, ◌<◌, ◌≤◌, eqb, leb, List, [], ◌∷◌, ◌++◌, Ok, Err, Result, sym, refl, ap, inl, inr, sub-one, arith}
use Rattle.std.proofs.lemmas.Bool.{leb-true}
use Rattle.number.specs.declared.fault.NumberFault.{NumberFault}
use Rattle.number.specs.Reads.{read_number}
use Rattle.term.specs.declared.node.Node.{Node}
use Rattle.word.specs.declared.fault.WordFault.{WordFault}
use Rattle.number.proofs.Answers.{clash, ok_same, picked}
use Rattle.word.specs.declared.fault.WordFault.TheVariants.{Number, Nodes}
use Rattle.word.specs.declared.reading.Read.{Read}
use Rattle.word.specs.Reads.{node_at, read_words, Gives}
use Rattle.word.specs.Then.{then}

-- what was answered on the way to an answer
pub then-made : {X Y E F : Type 0} (f : E → F) (r : Result X E) (next : X → Result Y F) (y : Y) → then f r next ≡ Ok y → (x : X) × (r ≡ Ok x) × (next x ≡ Ok y)
then-made f (Ok x) next y e = (x, refl, e)
then-made f (Err d) next y e = absurd (clash (f d) y e)

-- no more words are needed
pub words-none : (need room seen : ℕ) (input : List ℕ) (at : ℕ) (acc : List Node) → need ≡ 0 → read_words need room seen input at acc ≡ Ok (acc, at, seen)
unfolding read_words
words-none zero room seen input at acc e = refl
words-none (suc need) room seen input at acc e = absurd (omega arith)

-- no number begins the node
pub words-fault : (need room seen : ℕ) (input : List ℕ) (at : ℕ) (acc : List Node) (fault : NumberFault) → 0 < need → read_number input at ≡ Err fault
    → read_words need room seen input at acc ≡ Err (Number fault)
unfolding read_words
words-fault zero room seen input at acc fault h e = absurd (omega arith)
words-fault (suc need) zero seen input at acc fault h e = rw e
words-fault (suc need) (suc room) seen input at acc fault h e = rw e

-- the node has no room
pub words-full : (need room seen : ℕ) (input : List ℕ) (at : ℕ) (acc : List Node) (p : ℕ × ℕ) → 0 < need → room ≡ 0 → read_number input at ≡ Ok p
    → read_words need room seen input at acc ≡ Err (Nodes at)
unfolding read_words
words-full zero room seen input at acc p h g e = absurd (omega arith)
words-full (suc need) zero seen input at acc p h g e = rw e
words-full (suc need) (suc room) seen input at acc p h g e = absurd (omega arith)

-- the node has a fault
pub words-refused : (need room seen : ℕ) (input : List ℕ) (at : ℕ) (acc : List Node) (p : ℕ × ℕ) (fault : WordFault) → 0 < need → 0 < room → read_number input at ≡ Ok p
    → node_at seen input at p.0 p.1 ≡ Err fault → read_words need room seen input at acc ≡ Err fault
unfolding read_words
words-refused zero room seen input at acc p fault h g e d = absurd (omega arith)
words-refused (suc need) zero seen input at acc p fault h g e d = absurd (omega arith)
words-refused (suc need) (suc room) seen input at acc p fault h g e d = rw (e, d)

-- a node more
pub words_more : (need room seen : ℕ) (input : List ℕ) (at : ℕ) (acc : List Node) (p : ℕ × ℕ) (r : Read) → 0 < need → 0 < room → read_number input at ≡ Ok p
    → node_at seen input at p.0 p.1 ≡ Ok r
    → read_words need room seen input at acc ≡ read_words (need - 1 + r.places) (room - 1) r.seen input r.next (acc ++ r.node ∷ [])
unfolding read_words
words_more zero room seen input at acc p r h g e d = absurd (omega arith)
words_more (suc need) zero seen input at acc p r h g e d = absurd (omega arith)
words_more (suc need) (suc room) seen input at acc p r h g e d = rw (e, d, sub-one, sub-one)

-- a node has at most 8 places
pub node-places : (seen : ℕ) (input : List ℕ) (at value next : ℕ) (r : Read) → node_at seen input at value next ≡ Ok r → r.places ≤ 8
unfolding node_at
node-places seen input at value next r e = elim (picked (eqb (value % 2) 0) _ _ _ e) [
  | inl s ↦ elim (picked (leb (value / 2) seen) _ _ _ s.1) [
    | inl t ↦ let same = ok_same _ r t.1 in let none : 0 ≡ r.places = ap (λ (x : Read). x.places) same in omega arith
    | inr t ↦ absurd (clash _ r t.1)
  ]
  | inr s ↦
      let q = then-made Number (read_number input next) _ r s.1 in
      elim (picked (leb q.0.0 8) _ _ _ q.2) [
        | inl t ↦ let few : q.0.0 ≡ r.places = ap (λ (x : Read). x.places) (ok_same _ r t.1) in omega (arith, leb-true q.0.0 8 t.0)
        | inr t ↦ absurd (clash _ r t.1)
      ]
]

-- what an answer says of the definition
pub gave-fault : (R : Result (List Node × ℕ × ℕ) WordFault) (before after : List Node) (fault : WordFault) → Gives R before (Err fault) after → (R ≡ Err fault) × (after ≡ before)
gave-fault (Ok p) before after fault g = absurd (clash fault (p.1, p.2) g.0)
gave-fault (Err d) before after fault g = let h = g.0 in let e : fault ≡ d = cc in (ap Err (sym e), g.1)

pub gave-words : (R : Result (List Node × ℕ × ℕ) WordFault) (before after : List Node) (end seen : ℕ) → Gives R before (Ok (end, seen)) after → R ≡ Ok (after, end, seen)
gave-words (Ok p) before after end seen g =
    let e : (p.1, p.2) ≡ (end, seen) = sym (ok_same (end, seen) (p.1, p.2) g.0) in
    λ i. Ok (sym g.1 i, (e i).0, (e i).1)
gave-words (Err d) before after end seen g = absurd (clash d (end, seen) (sym g.0))

pub gives-fault : (S R : Result (List Node × ℕ × ℕ) WordFault) (r : Result (ℕ × ℕ) WordFault) (fault : WordFault) (after : List Node) → S ≡ R → S ≡ Err fault → r ≡ Err fault → Gives R after r after
gives-fault S R r fault after same e d = let z : R ≡ Err fault = cc in rw z (d, refl)

pub gives-read : (S R : Result (List Node × ℕ × ℕ) WordFault) (at seen : ℕ) (after : List Node) → S ≡ R → S ≡ Ok (after, at, seen) → Gives R after (Ok (at, seen)) after
gives-read S R at seen after same e = let z : R ≡ Ok (after, at, seen) = cc in rw z (refl, refl)
