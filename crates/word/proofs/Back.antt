-- The packed form of lawful words is read as these words.
use Rattle.std.proofs.Common.{◌≡◌, ℕ, suc, ◌+◌, ◌-◌, ◌*◌, ◌/◌, ◌%◌, ◌<◌, ◌≤◌, max, true, List, [], ◌∷◌, ◌++◌, length, drop, Ok, sym, refl, ap, ◌∙◌, append_assoc, arith, length-append}
use Rattle.std.proofs.lemmas.List.{append-nil, drop-drop, drop_at}
use Rattle.std.proofs.lemmas.Bool.{eq-eqb, ne_eqb, le-leb, false≢true}
use Rattle.number.specs.Forms.{form}
use Rattle.number.specs.Reads.{first, read_number}
use Rattle.number.proofs.Exact.{reads-form}
use Rattle.number.proofs.Formed.{has-form}
use Rattle.term.specs.Lawful.{lawful}
use Rattle.term.specs.declared.node.Node.{Node}
use Rattle.term.specs.declared.node.Node.TheVariants.{Variable, Applied}
use Rattle.term.specs.declared.node.Symbol.TheVariants.{Function, Positive, Negative}
use Rattle.word.specs.declared.reading.Read.{Read}
use Rattle.std.proofs.lemmas.List.Elements.{All-head, All-tail}
use Rattle.word.specs.Packed.{packed_node, packed, seen_after, Small, Writable}
use Rattle.word.specs.Reads.{gave, node_at, read_words}
use Rattle.word.proofs.Laws.{packed_none, packed_more, seen_none, seen-variable, seen-symbol, none-lawful, variable-lawful, symbol-lawful}
use Rattle.word.proofs.Puts.{length_more}
use Rattle.word.proofs.Turns.{words-none, words_more}

-- a number whose form stands at `at`
pub reads_at : (input rest : List ℕ) (at value : ℕ) → value ≤ 65535 → drop at input ≡ form value ++ rest → read_number input at ≡ Ok (value, at + length (form value))
unfolding read_number
reads_at input rest at value h e = ap (λ (l : List ℕ). first l at (length input)) e ∙ reads-form value (form value) rest at (length input) (has-form value h)

-- what stands after the bytes that stand at `at`
pub beyond : (input bytes rest : List ℕ) (at : ℕ) → drop at input ≡ bytes ++ rest → drop (at + length bytes) input ≡ rest
beyond input bytes rest at e = sym (drop-drop (length bytes) at input) ∙ ap (drop (length bytes)) e ∙ drop_at bytes rest (length bytes) refl

variable-at : (seen : ℕ) (input : List ℕ) (at x next : ℕ) → x ≤ seen → node_at seen input at (2 * x) next ≡ Ok (gave (Variable x) 0 next (max seen (suc x)))
unfolding node_at
variable-at seen input at x next h =
    let even : 2 * x % 2 ≡ 0 = omega arith in
    let half : 2 * x / 2 ≡ x = omega arith in
    rw (eq-eqb (2 * x % 2) 0 even, half, le-leb x seen h)

symbol-at : (seen : ℕ) (input : List ℕ) (at f k next to : ℕ) → k ≤ 8 → read_number input next ≡ Ok (k, to) → node_at seen input at (2 * f + 1) next ≡ Ok (gave (Applied (Function f) k) k to seen)
unfolding node_at
symbol-at seen input at f k next to h e =
    let odd : (2 * f + 1) % 2 ≡ 1 = omega arith in
    let half : (2 * f + 1) / 2 ≡ f = omega arith in
    rw (ne_eqb ((2 * f + 1) % 2) 0 (λ z. omega arith), half, e, le-leb k 8 h)

-- one node, and the others after it
module _ (need room seen : ℕ) (input : List ℕ) (at : ℕ) (acc nodes : List Node) where
  node-first : (p : ℕ × ℕ) (r : Read) → 0 < need → 0 < room → read_number input at ≡ Ok p → node_at seen input at p.0 p.1 ≡ Ok r → r.next ≡ at + length (packed_node r.node)
      → seen_after (r.node ∷ nodes) seen ≡ seen_after nodes r.seen
      → read_words (need - 1 + r.places) (room - 1) r.seen input r.next (acc ++ r.node ∷ []) ≡ Ok ((acc ++ r.node ∷ []) ++ nodes, r.next + length (packed nodes), seen_after nodes r.seen)
      → read_words need room seen input at acc ≡ Ok (acc ++ r.node ∷ nodes, at + length (packed (r.node ∷ nodes)), seen_after (r.node ∷ nodes) seen)
  node-first p r some space number node place counted rest =
      let step = words_more need room seen input at acc p r some space number node in
      let all : (acc ++ r.node ∷ []) ++ nodes ≡ acc ++ r.node ∷ nodes = append_assoc acc (r.node ∷ []) nodes in
      let to : r.next + length (packed nodes) ≡ at + length (packed (r.node ∷ nodes)) = omega (arith, length_more r.node nodes) in
      cc

pub reads-packed : (nodes : List Node) (need room seen : ℕ) (input rest : List ℕ) (at : ℕ) (acc : List Node) → Writable nodes → lawful nodes need seen ≡ true → length nodes ≤ room
    → drop at input ≡ packed nodes ++ rest → read_words need room seen input at acc ≡ Ok (acc ++ nodes, at + length (packed nodes), seen_after nodes seen)
reads-packed [] need room seen input rest at acc w l h e =
    let place : at + length (packed []) ≡ at = omega (arith, ap length packed_none) in
    words-none need room seen input at acc (none-lawful need seen l) ∙ rw (append-nil acc, place, seen_none seen)
reads-packed (Variable x ∷ nodes) need room seen input rest at acc w l h e =
    let p = variable-lawful x nodes need seen l in
    let bytes = form (2 * x) in
    let next = at + length bytes in
    let here : drop at input ≡ bytes ++ (packed nodes ++ rest) = e ∙ ap (λ (b : List ℕ). b ++ rest) (packed_more (Variable x) nodes) ∙ append_assoc bytes (packed nodes) rest in
    let z : need - 1 + 0 ≡ need - 1 = omega arith in
    node-first need room seen input at acc nodes (2 * x, next) (gave (Variable x) 0 next (max seen (suc x))) p.0 (omega arith)
    (reads_at input (packed nodes ++ rest) at (2 * x) (omega (arith, All-head Small _ nodes w)) here)
    (variable-at seen input at x next p.1)
    refl
    (seen-variable x nodes seen)
    (reads-packed nodes (need - 1 + 0) (room - 1) (max seen (suc x)) input rest next (acc ++ Variable x ∷ []) (All-tail Small (Variable x) nodes w) (rw z p.2) (omega arith) (beyond input bytes (packed nodes ++ rest) at here))
reads-packed (Applied (Function f) k ∷ nodes) need room seen input rest at acc w l h e =
    let p = symbol-lawful (Function f) k nodes need seen l in
    let one = form (2 * f + 1) in
    let two = form k in
    let next = at + length one in
    let to = next + length two in
    let here : drop at input ≡ one ++ (two ++ (packed nodes ++ rest)) =
    e ∙ ap (λ (b : List ℕ). b ++ rest) (packed_more (Applied (Function f) k) nodes) ∙ append_assoc (one ++ two) (packed nodes) rest ∙ append_assoc one two (packed nodes ++ rest) in
    let there : drop next input ≡ two ++ (packed nodes ++ rest) = beyond input one (two ++ (packed nodes ++ rest)) at here in
    node-first need room seen input at acc nodes (2 * f + 1, next) (gave (Applied (Function f) k) k to seen) p.0 (omega arith)
    (reads_at input (two ++ (packed nodes ++ rest)) at (2 * f + 1) (omega (arith, All-head Small _ nodes w)) here)
    (symbol-at seen input at f k next to p.2 (reads_at input (packed nodes ++ rest) next k (omega (arith, p.2)) there))
    (omega (arith, length-append one two))
    (seen-symbol (Function f) k nodes seen)
    (reads-packed nodes (need - 1 + k) (room - 1) seen input rest to (acc ++ Applied (Function f) k ∷ []) (All-tail Small (Applied (Function f) k) nodes w) p.3 (omega arith) (beyond input two (packed nodes ++ rest) next there))
reads-packed (Applied (Positive q) k ∷ nodes) need room seen input rest at acc w l h e = absurd (false≢true (symbol-lawful (Positive q) k nodes need seen l).1)
reads-packed (Applied (Negative q) k ∷ nodes) need room seen input rest at acc w l h e = absurd (false≢true (symbol-lawful (Negative q) k nodes need seen l).1)
