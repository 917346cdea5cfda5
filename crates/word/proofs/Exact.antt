-- What is read are lawful words, and their packed form is just the bytes read.
use Rattle.std.proofs.Common.{◌≡◌, ℕ, zero, suc, ◌+◌, ◌-◌, ◌*◌, ◌/◌, ◌%◌, ◌<◌, ◌≤◌, max, true, false, eqb, leb, List, [], ◌∷◌, ◌++◌, length, get_or, drop, is_err, Ok, Err, Result, sym, refl, ap, ◌∙◌, subst, inl, inr, append_assoc, arith}
use Rattle.std.specs.List.{between}
use Rattle.std.proofs.lemmas.List.Edits.{between_none}
use Rattle.std.proofs.lemmas.List.{append-nil, take-append-drop}
use Rattle.std.proofs.lemmas.Bool.{leb-true, eqb-true, eqb-false, true≢false, false≢true}
use Rattle.number.specs.Forms.{form}
use Rattle.number.specs.Reads.{read_number}
use Rattle.number.proofs.Exact.{number-stands}
use Rattle.term.specs.Lawful.{lawful}
use Rattle.term.specs.declared.node.Node.{Node}
use Rattle.term.specs.declared.node.Node.TheVariants.{Variable, Applied}
use Rattle.term.specs.declared.node.Symbol.TheVariants.{Function}
use Rattle.word.specs.declared.fault.WordFault.{WordFault}
use Rattle.word.specs.declared.fault.WordFault.TheVariants.{Number}
use Rattle.word.specs.declared.reading.Read.{Read}
use Rattle.std.proofs.lemmas.List.Elements.{All-nil, All-cons}
use Rattle.word.specs.Packed.{packed_node, packed, seen_after, node_number, Small}
use Rattle.word.specs.Reads.{gave, node_at, read_words, Gives, Stand, Added, Exactly}
use Rattle.word.proofs.Laws.{packed_none, packed_more, seen_none, seen-variable, seen-symbol, lawful-none, lawful-variable, lawful-symbol, between_join}
use Rattle.word.proofs.Back.{reads-packed}
use Rattle.number.proofs.Answers.{clash, ok_same, picked}
use Rattle.word.proofs.Turns.{then-made}

-- a node stands from `at` to the place after it
record NodeStands (seen : ℕ) (input : List ℕ) (at : ℕ) (r : Read) : Type 0 where
  forward : at ≤ r.next
  inside : r.next ≤ length input
  bytes : between at r.next input ≡ packed_node r.node
  small : node_number r.node ≤ 32767
  words : (nodes : List Node) (need : ℕ) → 0 < need → lawful nodes (need - 1 + r.places) r.seen ≡ true → lawful (r.node ∷ nodes) need seen ≡ true
  counted : (nodes : List Node) → seen_after (r.node ∷ nodes) seen ≡ seen_after nodes r.seen

variable-stands : (seen : ℕ) (input : List ℕ) (at : ℕ) (p : ℕ × ℕ) → (at < p.1) × (p.1 ≤ length input) × (p.0 ≤ 65535) × (between at p.1 input ≡ form p.0)
    → p.0 % 2 ≡ 0 → p.0 / 2 ≤ seen → NodeStands seen input at (gave (Variable (p.0 / 2)) 0 p.1 (max seen (suc (p.0 / 2))))
variable-stands seen input at p n even h =
    let same : p.0 ≡ 2 * (p.0 / 2) = omega arith in
    record {
      forward = omega (arith, n.0);
      inside = n.1;
      bytes = n.3 ∙ ap form same;
      small = omega (arith, n.2);
      words = λ nodes need some rest.
          let z : need - 1 + 0 ≡ need - 1 = omega arith in
          lawful-variable (p.0 / 2) nodes need seen some h (rw z at rest);
      counted = λ nodes. seen-variable (p.0 / 2) nodes seen;
    }

symbol-stands : (seen : ℕ) (input : List ℕ) (at : ℕ) (p q : ℕ × ℕ) → (at < p.1) × (p.1 ≤ length input) × (p.0 ≤ 65535) × (between at p.1 input ≡ form p.0)
    → (p.1 < q.1) × (q.1 ≤ length input) × (q.0 ≤ 65535) × (between p.1 q.1 input ≡ form q.0)
    → (p.0 % 2 ≡ 0 → ⊥) → q.0 ≤ 8 → NodeStands seen input at (gave (Applied (Function (p.0 / 2)) q.0) q.0 q.1 seen)
symbol-stands seen input at p q n m odd few =
    let same : p.0 ≡ 2 * (p.0 / 2) + 1 = omega arith in
    record {
      forward = omega (arith, n.0, m.0);
      inside = m.1;
      bytes = between_join input at p.1 q.1 (omega (arith, n.0)) (omega (arith, m.0)) ∙ rw (n.3, m.3) (ap (λ (v : ℕ). form v ++ form q.0) same);
      small = omega (arith, n.2);
      words = λ nodes need some rest. lawful-symbol (p.0 / 2) q.0 nodes need seen some (omega (arith, n.2)) few rest;
      counted = λ nodes. seen-symbol (Function (p.0 / 2)) q.0 nodes seen;
    }

node-stands : (seen : ℕ) (input : List ℕ) (at : ℕ) → ((i : ℕ) → get_or input i 0 < 256) → (p : ℕ × ℕ) (r : Read) → read_number input at ≡ Ok p → node_at seen input at p.0 p.1 ≡ Ok r
    → NodeStands seen input at r
unfolding node_at
node-stands seen input at bytes p r e d =
    let n = number-stands input at bytes p e in
    elim (picked (eqb (p.0 % 2) 0) _ _ _ d) [
      | inl s ↦ elim (picked (leb (p.0 / 2) seen) _ _ _ s.1) [
        | inl t ↦ subst (NodeStands seen input at) (ok_same _ r t.1) (variable-stands seen input at p n (eqb-true (p.0 % 2) 0 s.0) (leb-true (p.0 / 2) seen t.0))
        | inr t ↦ absurd (clash _ r t.1)
      ]
      | inr s ↦
          let q = then-made Number (read_number input p.1) _ r s.1 in
          elim (picked (leb q.0.0 8) _ _ _ q.2) [
            | inl t ↦ subst (NodeStands seen input at) (ok_same _ r t.1)
                (symbol-stands seen input at p q.0 n (number-stands input p.1 bytes q.0 q.1) (eqb-false (p.0 % 2) 0 s.0) (leb-true q.0.0 8 t.0))
            | inr t ↦ absurd (clash _ r t.1)
          ]
    ]

no_words : (room seen : ℕ) (input : List ℕ) (at : ℕ) (acc : List Node) → Added 0 room seen input at at seen acc acc
no_words room seen input at acc = record {
  nodes = [];
  stand = record { words = lawful-none 0 seen refl; writable = All-nil Small; fits = omega arith; bytes = between_none input at ∙ sym packed_none };
  added = sym (append-nil acc);
  counted = sym (seen_none seen);
  forward = omega arith;
  inside = λ h. h;
}

-- a node before the other words
node-before : (need room seen : ℕ) (input : List ℕ) (at to new : ℕ) (acc after : List Node) (r : Read) → NodeStands seen input at r
    → Added (need + r.places) room r.seen input r.next to new (acc ++ r.node ∷ []) after → Added (suc need) (suc room) seen input at to new acc after
node-before need room seen input at to new acc after r s w =
    let less : suc need - 1 ≡ need = omega arith in
    record {
      nodes = r.node ∷ w.nodes;
      stand = record {
        words = s.words w.nodes (suc need) (omega arith) (rw less w.stand.words);
        writable = All-cons Small r.node w.nodes s.small w.stand.writable;
        fits = omega (arith, w.stand.fits);
        bytes = between_join input at r.next to s.forward w.forward ∙ rw (s.bytes, w.stand.bytes) (sym (packed_more r.node w.nodes));
      };
      added = w.added ∙ append_assoc acc (r.node ∷ []) w.nodes;
      counted = w.counted ∙ sym (s.counted w.nodes);
      forward = omega (arith, s.forward, w.forward);
      inside = λ _. w.inside s.inside;
    }

abbrev Told : (need room seen : ℕ) (input : List ℕ) (at : ℕ) (acc : List Node) → List Node × ℕ × ℕ → Type 0
Told need room seen input at acc q = Added need room seen input at q.1 q.2 acc q.0

-- what is read was added
pub words-added : (need room seen : ℕ) (input : List ℕ) (at : ℕ) (acc : List Node) → ((i : ℕ) → get_or input i 0 < 256) → (q : List Node × ℕ × ℕ) → read_words need room seen input at acc ≡ Ok q
    → Added need room seen input at q.1 q.2 acc q.0
unfolding read_words
words-added zero room seen input at acc bytes q e = subst (Told 0 room seen input at acc) (ok_same _ q e) (no_words room seen input at acc)
words-added (suc need) zero seen input at acc bytes q e = let p = then-made Number (read_number input at) _ q e in absurd (clash _ q p.2)
words-added (suc need) (suc room) seen input at acc bytes q e =
    let p = then-made Number (read_number input at) _ q e in
    let r = then-made (λ e. e) (node_at seen input at p.0.0 p.0.1) _ q p.2 in
    let s = node-stands seen input at bytes p.0 r.0 p.1 r.1 in
    node-before need room seen input at q.1 q.2 acc q.0 r.0 s
    (words-added (need + r.0.places) room r.0.seen input r.0.next (acc ++ r.0.node ∷ []) bytes q r.2)

-- words that stand somewhere are read
pub stand_read : (need room seen : ℕ) (input : List ℕ) (at to : ℕ) (acc nodes : List Node) → Stand need room seen input at to nodes
    → read_words need room seen input at acc ≡ Ok (acc ++ nodes, at + length (packed nodes), seen_after nodes seen)
stand_read need room seen input at to acc nodes s =
    let rest = drop (to - at) (drop at input) in
    let here : drop at input ≡ packed nodes ++ rest = sym (take-append-drop (to - at) (drop at input)) ∙ ap (λ (l : List ℕ). l ++ rest) s.bytes in
    reads-packed nodes need room seen input rest at acc s.writable s.words s.fits here

-- an answer that the definition gives is exact
pub gives-exactly : (need room seen : ℕ) (input : List ℕ) (at : ℕ) (acc : List Node) → ((i : ℕ) → get_or input i 0 < 256) → (R : Result (List Node × ℕ × ℕ) WordFault) → R ≡ read_words need room seen input at acc
    → (held : List Node) (r : Result (ℕ × ℕ) WordFault) (after : List Node) → Gives R held r after → Exactly need room seen input at acc r after
gives-exactly need room seen input at acc bytes (Ok q) e held r after gives = rw (gives.0, gives.1) (words-added need room seen input at acc bytes q (sym e))
gives-exactly need room seen input at acc bytes (Err fault) e held r after gives = rw gives.0 (λ to nodes s. clash fault _ (e ∙ stand_read need room seen input at to acc nodes s))

-- after a fault the list holds again what it held before
pub gives_back : (R : Result (List Node × ℕ × ℕ) WordFault) (before : List Node) (r : Result (ℕ × ℕ) WordFault) (held after : List Node) → is_err r ≡ true → Gives R held r held → after ≡ before
    → Gives R before r after
gives_back (Ok q) before r held after e gives same = absurd (false≢true (ap is_err (sym gives.0) ∙ e))
gives_back (Err fault) before r held after e gives same = (gives.0, same)

pub gives-on : (R : Result (List Node × ℕ × ℕ) WordFault) (before : List Node) (r : Result (ℕ × ℕ) WordFault) (held : List Node) → is_err r ≡ false → Gives R held r held → Gives R before r held
gives-on (Ok q) before r held e gives = gives
gives-on (Err fault) before r held e gives = absurd (true≢false (ap is_err (sym gives.0) ∙ e))
