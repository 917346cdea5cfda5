-- Joining the literals of two clauses, one pair after the other.
use Rattle.std.proofs.Common.{◌≡◌, ℕ, ◌+◌, ◌-◌, ◌*◌, ◌<◌, ◌≤◌, List, [], ◌∷◌, ◌++◌, length, get_or, drop, sum_by, sym, refl, ap, ap₂, ◌∙◌, subst, append_assoc, append-nil, arith, length-append}
use Rattle.std.proofs.Math.Nat.{mul-le-mul_right}
use Rattle.std.proofs.lemmas.List.{drop_all, drop_more, length-map}
use Rattle.std.proofs.lemmas.List.Sums.{sum_by-drop_more}
use Rattle.bounded.specs.Elems.{elems}
use Rattle.clauses.specs.Beginnings.{begins}
use Rattle.clauses.specs.Clauses.{literals_at}
use Rattle.clauses.specs.Joins.{fit_decided, row, rows, raw}
use Rattle.clauses.specs.Variants.{variables}
use Rattle.clauses.proofs.Below.{nodes-below}
use Rattle.clauses.proofs.Each.{size-each}
use Rattle.clauses.proofs.Grown.{sizes-held}
use Rattle.clauses.proofs.Ordered.{raw-numbered}
use Rattle.subsume.specs.declared.view.View.{View}
use Rattle.term.specs.Coding.{decode, word_at}
use Rattle.term.specs.Joined.{mean, Inside}
use Rattle.term.specs.Joins.{Table}
use Rattle.term.specs.Lawful.{Numbered}
use Rattle.term.specs.Matched.{Below}
use Rattle.term.specs.Words.{Word, var, size}
use Rattle.term.specs.declared.join.Pair.{Pair}
use Rattle.term.proofs.Cases.{by-test, by-test-both}
use Rattle.term.proofs.Pairings.{inside-none, mean-none}
use Rattle.joining.specs.declared.raw.RawClause.{RawClause}
use Rattle.joining.specs.Raw.{literals, Added}
use Rattle.joining.proofs.Standing.{literal_at, rest-begun, sum-begun}

-- what a literal gives with those of E, and then the literals C with those of D
abbrev pub onward : Word → (E C D : List Word) → Table → List Word
onward l E C D T = let r = row l E T in r.0 ++ (rows C D r.1).0

onward-more : (l m : Word) (E C D : List Word) (T : Table) → (row l (m ∷ []) T).0 ++ onward l E C D (row l (m ∷ []) T).1 ≡ onward l (m ∷ E) C D T
onward-more l m E C D T =
    by-test-both (λ (r q : List Word × Table). r.0 ++ onward l E C D r.1 ≡ q.0 ++ (rows C D q.1).0) (fit_decided l m) (λ _. refl) (λ _. refl)

length-one : (l m : Word) (T : Table) → length (row l (m ∷ []) T).0 ≤ 1
length-one l m T = by-test (λ (r : List Word × Table). length r.0 ≤ 1) (fit_decided l m) (λ _. omega arith) (λ _. omega arith)

module _ (a b : View) where
  abbrev C : List Word
  C = literals_at a.nodes.now a.starts.now

  abbrev D : List Word
  D = literals_at b.nodes.now b.starts.now

  abbrev table : List Pair → Table
  table s = mean a.nodes.now b.nodes.now s

  -- the literals of the first clause before i are joined with those of the second
  pub record Joined (i : ℕ) (r : RawClause) (s : List Pair) : Type 0 where
    pub built : literals r ++ (rows (drop i C) D (table s)).0 ≡ raw C D
    pub known : Inside a.nodes.now b.nodes.now s
    pub room : length (elems r.nodes) + 16 * sum_by size (drop i C) ≤ 4096
    pub spare : length s + 16 * sum_by size (drop i C) ≤ 4096
    pub few : length (literals r) ≤ 16 * i

  -- and the literal i with those before j
  pub record Joining (i j : ℕ) (r : RawClause) (s : List Pair) : Type 0 where
    pub built : literals r ++ onward (get_or C i (var 0)) (drop j D) (drop (i + 1) C) D (table s) ≡ raw C D
    pub known : Inside a.nodes.now b.nodes.now s
    pub room : length (elems r.nodes) + 16 * sum_by size (drop i C) ≤ 4096 + j * size (get_or C i (var 0))
    pub spare : length s + 16 * sum_by size (drop i C) ≤ 4096 + j * size (get_or C i (var 0))
    pub few : length (literals r) ≤ 16 * i + j

  inside-left : (i : ℕ) → i < length a.starts.now → i < length C
  inside-left i h = omega (arith, length-map a.starts.now (word_at a.nodes.now))

  module _ (begun : a.starts.now ≡ begins 0 (decode a.nodes.now)) where
    pub joined-none : (r : RawClause) (s : List Pair) → literals r ≡ [] → s ≡ [] → length a.nodes.now ≤ 256 → Joined 0 r s
    joined-none r s e f h =
        let long : length (elems r.nodes) ≡ 0 = sym (sizes-held (elems r.nodes) r.whole) ∙ sym (size-each (decode (elems r.nodes))) ∙ ap (sum_by size) e in
        let none : length s ≡ 0 = ap length f in
        let small = sum-begun a.nodes.now a.whole a.starts.now begun in
        record {
          built = rw (e, mean-none a.nodes.now b.nodes.now s f) refl;
          known = inside-none a.nodes.now b.nodes.now s f;
          room = omega arith;
          spare = omega arith;
          few = omega (arith, ap length e);
        }

    -- where n is what was written, there is room for the next join
    pub room-next : (i j n : ℕ) → i < length a.starts.now → j < 16 → n + 16 * sum_by size (drop i C) ≤ 4096 + j * size (get_or C i (var 0))
        → n + (length a.nodes.now - get_or a.starts.now i 0) ≤ 4096
    room-next i j n h few g =
        let below : j ≤ 15 = omega arith in
        omega (
          arith,
          mul-le-mul_right (size (get_or C i (var 0))) below,
          sum_by-drop_more size C i (var 0) (inside-left i h),
          rest-begun a.nodes.now a.whole a.starts.now begun i 0 h,
        )

  module _ (r : RawClause) (s : List Pair) where
    -- where all literals are joined, there are fewer variables than nodes
    pub joined-below : (i : ℕ) → length a.starts.now ≤ i → Joined i r s → Below (length (elems r.nodes)) (elems r.nodes)
    joined-below i h g =
        let none = drop_all i C (omega (arith, length-map a.starts.now (word_at a.nodes.now))) in
        let built : literals r ≡ raw C D = sym (append-nil (literals r)) ∙ (rw none at g.built) in
        nodes-below (length (elems r.nodes)) (elems r.nodes) r.whole (subst (λ (L : List Word). Numbered 0 (variables L)) (sym built) (raw-numbered C D)) (omega arith)

    pub joining-more : (i j : ℕ) (r' : RawClause) (s' : List Pair) → i < length a.starts.now → j < length b.starts.now → Joining i j r s
        → Added a.nodes.now b.nodes.now (get_or a.starts.now i 0) (get_or b.starts.now j 0) r r' s s' → Joining i (j + 1) r' s'
    joining-more i j r' s' h k g d =
        let l = get_or C i (var 0) in
        let m = get_or D j (var 0) in
        let e : word_at a.nodes.now (get_or a.starts.now i 0) ≡ l = literal_at a.nodes.now a.starts.now i h in
        let f : word_at b.nodes.now (get_or b.starts.now j 0) ≡ m = literal_at b.nodes.now b.starts.now j k in
        let one = row l (m ∷ []) (table s) in
        let same = ap₂ (λ (v w : Word). row v (w ∷ []) (table s)) e f in
        let built = d.literals ∙ ap (λ (R : List Word × Table). literals r ++ R.0) same in
        let rest = drop (i + 1) C in
        let long = ap size e in
        record {
          built =
              ap (λ (T : Table). literals r' ++ onward l (drop (j + 1) D) rest D T) (d.table ∙ ap (λ (R : List Word × Table). R.1) same)
              ∙ ap (λ (L : List Word). L ++ onward l (drop (j + 1) D) rest D one.1) built
              ∙ append_assoc (literals r) one.0 (onward l (drop (j + 1) D) rest D one.1)
              ∙ ap (λ (L : List Word). literals r ++ L) (onward-more l m (drop (j + 1) D) rest D (table s))
              ∙ ap (λ (E : List Word). literals r ++ onward l E rest D (table s)) (sym (drop_more D j (var 0) (omega (arith, length-map b.starts.now (word_at b.nodes.now)))))
              ∙ g.built;
          known = d.known;
          room = omega (arith, g.room, d.room);
          spare = omega (arith, g.spare, d.spare);
          few = omega (arith, g.few, ap length built, length-append (literals r) one.0, length-one l m (table s));
        }
