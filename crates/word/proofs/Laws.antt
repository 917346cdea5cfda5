-- Lawful words and packed bytes, node by node.
use Rattle.std.proofs.Common.{◌≡◌, ℕ, zero, suc, ◌+◌, ◌-◌, ◌<◌, ◌≤◌, max, true, ◌&&◌, ltb, leb, List, [], ◌∷◌, ◌++◌, length, take, drop, refl, ap, ◌∙◌, arith, take-add}
use Rattle.std.specs.List.{between}
use Rattle.std.proofs.lemmas.List.{drop-drop}
use Rattle.std.proofs.lemmas.Grind.{flat_map-append}
use Rattle.std.proofs.lemmas.List.Elements.{All-nil, All-cons}
use Rattle.std.proofs.lemmas.Bool.{ltb-true, leb-true, eqb-true, lt-ltb, le-leb, and_parts, and_from, false≢true}
use Rattle.term.specs.Lawful.{lawful, functional}
use Rattle.term.specs.declared.node.Node.{Node}
use Rattle.term.specs.declared.node.Node.TheVariants.{Variable, Applied}
use Rattle.term.specs.declared.node.Symbol.{Symbol}
use Rattle.term.specs.declared.node.Symbol.TheVariants.{Function, Positive, Negative}
use Rattle.word.specs.Packed.{packed_node, packed, seen_after, Small, Writable}

pub packed_none : packed [] ≡ []
unfolding packed
packed_none = refl

pub packed_more : (node : Node) (nodes : List Node) → packed (node ∷ nodes) ≡ packed_node node ++ packed nodes
unfolding packed
packed_more node nodes = refl

pub seen_none : (seen : ℕ) → seen_after [] seen ≡ seen
unfolding seen_after
seen_none seen = refl

pub seen-variable : (x : ℕ) (nodes : List Node) (seen : ℕ) → seen_after (Variable x ∷ nodes) seen ≡ seen_after nodes (max seen (suc x))
unfolding seen_after
seen-variable x nodes seen = refl

pub seen-symbol : (s : Symbol) (k : ℕ) (nodes : List Node) (seen : ℕ) → seen_after (Applied s k ∷ nodes) seen ≡ seen_after nodes seen
unfolding seen_after
seen-symbol s k nodes seen = refl

-- no words are needed
pub lawful-none : (need seen : ℕ) → need ≡ 0 → lawful [] need seen ≡ true
unfolding lawful
lawful-none zero seen e = refl
lawful-none (suc need) seen e = absurd (omega arith)

-- a variable before lawful words
pub lawful-variable : (x : ℕ) (nodes : List Node) (need seen : ℕ) → 0 < need → x ≤ seen → lawful nodes (need - 1) (max seen (suc x)) ≡ true → lawful (Variable x ∷ nodes) need seen ≡ true
unfolding lawful
lawful-variable x nodes need seen h g rest = and_from (ltb 0 need) _ (lt-ltb 0 need h) (and_from (leb x seen) _ (le-leb x seen g) rest)

-- a function symbol before lawful words
pub lawful-symbol : (f k : ℕ) (nodes : List Node) (need seen : ℕ) → 0 < need → f ≤ 32767 → k ≤ 8 → lawful nodes (need - 1 + k) seen ≡ true → lawful (Applied (Function f) k ∷ nodes) need seen ≡ true
unfolding lawful
lawful-symbol f k nodes need seen h g l rest =
    and_from (ltb 0 need) _ (lt-ltb 0 need h) (and_from (leb f 32767 && leb k 8) _ (and_from (leb f 32767) (leb k 8) (le-leb f 32767 g) (le-leb k 8 l)) rest)

-- what lawful words that begin so are
pub none-lawful : (need seen : ℕ) → lawful [] need seen ≡ true → need ≡ 0
unfolding lawful
none-lawful need seen e = eqb-true need 0 e

pub variable-lawful : (x : ℕ) (nodes : List Node) (need seen : ℕ) → lawful (Variable x ∷ nodes) need seen ≡ true → (0 < need) × (x ≤ seen) × (lawful nodes (need - 1) (max seen (suc x)) ≡ true)
unfolding lawful
variable-lawful x nodes need seen e =
    let p = and_parts (ltb 0 need) _ e in
    let q = and_parts (leb x seen) _ p.1 in
    (ltb-true 0 need p.0, leb-true x seen q.0, q.1)

pub symbol-lawful : (s : Symbol) (k : ℕ) (nodes : List Node) (need seen : ℕ) → lawful (Applied s k ∷ nodes) need seen ≡ true
    → (0 < need) × (functional s ≡ true) × (k ≤ 8) × (lawful nodes (need - 1 + k) seen ≡ true)
unfolding lawful
symbol-lawful s k nodes need seen e =
    let p = and_parts (ltb 0 need) _ e in
    let q = and_parts (functional s && leb k 8) _ p.1 in
    let t = and_parts (functional s) (leb k 8) q.0 in
    (ltb-true 0 need p.0, t.0, leb-true k 8 t.1, q.1)

-- bytes side by side
pub between_join : (xs : List ℕ) (i j k : ℕ) → i ≤ j → j ≤ k → between i k xs ≡ between i j xs ++ between j k xs
between_join xs i j k h g =
    let all : k - i ≡ (j - i) + (k - j) = omega arith in
    let mid : i + (j - i) ≡ j = omega arith in
    ap (λ (n : ℕ). take n (drop i xs)) all
    ∙ take-add (j - i) (k - j) (drop i xs)
    ∙ ap (λ (l : List ℕ). take (j - i) (drop i xs) ++ take (k - j) l) (drop-drop (j - i) i xs ∙ ap (λ (n : ℕ). drop n xs) mid)

-- nodes after others
pub packed-append : (nodes more : List Node) → packed (nodes ++ more) ≡ packed nodes ++ packed more
unfolding packed
packed-append nodes more = flat_map-append packed_node nodes more

-- few lawful words are writable
pub lawful-writable : (nodes : List Node) (need seen : ℕ) → lawful nodes need seen ≡ true → seen + length nodes ≤ 32768 → Writable nodes
lawful-writable [] need seen l h = All-nil Small
lawful-writable (Variable x ∷ nodes) need seen l h =
    let p = variable-lawful x nodes need seen l in
    All-cons Small (Variable x) nodes (omega (arith, p.1)) (lawful-writable nodes (need - 1) (max seen (suc x)) p.2 (omega (arith, p.1)))
lawful-writable (Applied (Function f) k ∷ nodes) need seen l h =
    let p = symbol-lawful (Function f) k nodes need seen l in
    All-cons Small (Applied (Function f) k) nodes (leb-true f 32767 p.1) (lawful-writable nodes (need - 1 + k) seen p.3 (omega arith))
lawful-writable (Applied (Positive q) k ∷ nodes) need seen l h = absurd (false≢true (symbol-lawful (Positive q) k nodes need seen l).1)
lawful-writable (Applied (Negative q) k ∷ nodes) need seen l h = absurd (false≢true (symbol-lawful (Negative q) k nodes need seen l).1)
