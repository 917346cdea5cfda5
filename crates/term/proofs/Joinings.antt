-- The join of words at two places, place by place.
use Rattle.std.proofs.Common.{◌≡◌, ℕ, suc, ◌+◌, ◌-◌, ◌<◌, ◌≤◌, List, [], ◌∷◌, ◌++◌, length, drop, sym, refl, ap, ◌∙◌, ap₂, append_assoc, append-nil, arith}
use Rattle.std.proofs.lemmas.List.{length_push}
use Rattle.term.specs.declared.join.Pair.{Pair}
use Rattle.term.specs.declared.node.Node.{Node}
use Rattle.term.specs.declared.node.Node.TheVariants.{Variable, Applied}
use Rattle.term.specs.declared.node.Symbol.{Symbol}
use Rattle.term.specs.declared.walk.WordAt.{WordAt}
use Rattle.term.specs.Words.{Word, app, Words, nil, cons, len}
use Rattle.term.specs.Coding.{places_of, code, codes, first, hd, tl, decode, Whole, words_at, word_at, Next}
use Rattle.term.specs.Joins.{Table, alike_decided, place, enter, stand, join, joins}
use Rattle.term.specs.Joined.{mean, Inside, Fellows, Joined}
use Rattle.term.proofs.Cases.{by-test}
use Rattle.term.proofs.Codings.{len-first}
use Rattle.term.proofs.Walked.{root, root-words, root-whole, Walked, first_step, walked-some, walked_on, walked-first, walked-last}

pub len-joins : (us vs : Words) (T : Table) → len us ≡ len vs → len (joins us vs T).0 ≡ len us
len-joins nil vs T e = refl
len-joins (cons u us) nil T e = absurd (omega arith)
len-joins (cons u us) (cons v vs) T e = ap suc (len-joins us vs (join u v T).1 (omega arith))

pub fellows-same : (x y : Node) → Fellows x y → x ≡ y
fellows-same (Variable x) y h = absurd h
fellows-same (Applied s k) (Variable y) h = absurd h
fellows-same (Applied s k) (Applied t l) h = ap₂ Applied h.0 h.1

-- the same symbol on both sides: it stands over the joins of the places
record Over (x : Node) (w : Word × Table) (ws : Words × Table) : Type 0 where
  nodes : code w.0 ≡ x ∷ codes ws.0
  table : w.1 ≡ ws.1

over-app : (s : Symbol) (k : ℕ) (us vs : Words) (T : Table) → len us ≡ k → len vs ≡ k → Over (Applied s k) (join (app s us) (app s vs) T) (joins us vs T)
over-app s k us vs T p q =
    by-test (λ (w : Word × Table). Over (Applied s k) w (joins us vs T)) (alike_decided s us s vs)
    (λ _. record { nodes = ap (λ (n : ℕ). Applied s n ∷ codes (joins us vs T).0) (len-joins us vs T (p ∙ sym q) ∙ p); table = refl })
    (λ n. absurd (n (refl, p ∙ sym q)))

over : (x y : Node) (r s : List Node) (T : Table) → Whole (x ∷ r) → Whole (y ∷ s) → Fellows x y →
    Over x (join (hd (decode (x ∷ r))) (hd (decode (y ∷ s))) T) (joins (first (places_of x) (decode r)) (first (places_of x) (decode s)) T)
unfolding decode Whole
over (Variable x) y r s T v w h = absurd h
over (Applied f k) (Variable y) r s T v w h = absurd h
over (Applied f k) (Applied g l) r s T v w h =
    let d : k ≤ len (decode s) = omega (arith, w.0) in
    rw (← h.0, ← h.1) (over-app f k (first k (decode r)) (first k (decode s)) T (len-first k (decode r) v.0) (len-first k (decode s) d))

-- other nodes: the words join to the variable of their pair
apart : (x y : Node) (r s : List Node) (T : Table) → Whole (x ∷ r) → Whole (y ∷ s) → ¬ Fellows x y →
    join (hd (decode (x ∷ r))) (hd (decode (y ∷ s))) T ≡ stand (hd (decode (x ∷ r))) (hd (decode (y ∷ s))) T
unfolding decode Whole
apart (Variable x) y r s T v w h = refl
apart (Applied f k) (Variable y) r s T v w h = refl
apart (Applied f k) (Applied g l) r s T v w h =
    let us = first k (decode r) in
    let vs = first l (decode s) in
    by-test (λ (z : Word × Table). z ≡ stand (app f us) (app g vs) T) (alike_decided f us g vs)
    (λ e. absurd (h (e.0, sym (len-first k (decode r) v.0) ∙ e.1 ∙ len-first l (decode s) w.0)))
    (λ _. refl)

-- of k words from p0 and q0 on, m are still to be joined, from p and q on
pub record Going (a b : List Node) (k m p q : ℕ) (o : List Node) (s : List Pair) (p0 q0 : ℕ) (o0 : List Node) (s0 : List Pair) : Type 0 where
  pub left : Walked a k m p p0
  pub right : Walked b k m q q0
  pub known : Inside a b s
  pub room : length o + (length a - p) ≤ length o0 + (length a - p0)
  pub spare : length s + (length a - p) ≤ length s0 + (length a - p0)
  pub nodes : o ++ codes (joins (first m (words_at a p)) (first m (words_at b q)) (mean a b s)).0 ≡ o0 ++ codes (joins (first k (words_at a p0)) (first k (words_at b q0)) (mean a b s0)).0
  pub table : (joins (first m (words_at a p)) (first m (words_at b q)) (mean a b s)).1 ≡ (joins (first k (words_at a p0)) (first k (words_at b q0)) (mean a b s0)).1

-- one word more
module _ (us vs us' vs' : Words) (m : ℕ) (T T' : Table) (h : 0 < m) (p : 1 ≤ len us) (q : 1 ≤ len vs) (c : us' ≡ tl us) (d : vs' ≡ tl vs) (f : T' ≡ (join (hd us) (hd vs) T).1) where
  more-nodes : (o o' : List Node) → o' ≡ o ++ code (join (hd us) (hd vs) T).0 →
      o' ++ codes (joins (first (m - 1) us') (first (m - 1) vs') T').0 ≡ o ++ codes (joins (first m us) (first m vs) T).0
  more-nodes o o' e = rw (first_step m us h p, first_step m vs h q, c, d, e, f) (append_assoc o _ _)

  more-table : (joins (first (m - 1) us') (first (m - 1) vs') T').1 ≡ (joins (first m us) (first m vs) T).1
  more-table = rw (first_step m us h p, first_step m vs h q, c, d, f)

module _ (a b : List Node) where
  pub going_on : (k m m' p q p' q' : ℕ) (o o' : List Node) (s s' : List Pair) (p0 q0 : ℕ) (o0 : List Node) (s0 : List Pair) → 0 < m → m' ≡ m - 1 →
      Going a b k m p q o s p0 q0 o0 s0 → Joined a b p q p' q' o o' s s' → Going a b k m' p' q' o' s' p0 q0 o0 s0
  going_on k m m' p q p' q' o o' s s' p0 q0 o0 s0 h e g j =
      let l = walked-some a k m p p0 h g.left in
      let r = walked-some b k m q q0 h g.right in
      record {
        left = walked_on a k m m' p p' p0 h e g.left j.left;
        right = walked_on b k m m' q q' q0 h e g.right j.right;
        known = j.known;
        room = omega (arith, g.room, j.room);
        spare = omega (arith, g.spare, j.spare);
        nodes = rw e (more-nodes (words_at a p) (words_at b q) (words_at a p') (words_at b q') m (mean a b s) (mean a b s') h l r j.left.rest j.right.rest j.table o o' j.nodes ∙ g.nodes);
        table = rw e (more-table (words_at a p) (words_at b q) (words_at a p') (words_at b q') m (mean a b s) (mean a b s') h l r j.left.rest j.right.rest j.table ∙ g.table);
      }

module _ (a b : WordAt) where
  -- the places begin
  pub going-first : (k m : ℕ) (o : List Node) (s : List Pair) → Fellows (root a) (root b) → k ≡ places_of (root a) → m ≡ k → Inside a.nodes.now b.nodes.now s → Going a.nodes.now b.nodes.now k m (a.start + 1) (b.start + 1) o s (a.start + 1) (b.start + 1) o s
  going-first k m o s h e f w =
      let z = ap places_of (fellows-same (root a) (root b) h) in
      record {
        left = walked-first a.nodes.now a.start (Variable 0) a.inside k m a.whole e f;
        right = walked-first b.nodes.now b.start (Variable 0) b.inside k m b.whole (e ∙ z) f;
        known = w;
        room = omega arith;
        spare = omega arith;
        nodes = rw f refl;
        table = rw f refl;
      }

  -- all places are joined
  pub going-last : (k m p q : ℕ) (o o1 o' : List Node) (s s' : List Pair) → Fellows (root a) (root b) → k ≡ places_of (root a) → m ≡ 0 → o1 ≡ o ++ root a ∷ [] →
      Going a.nodes.now b.nodes.now k m p q o' s' (a.start + 1) (b.start + 1) o1 s → Joined a.nodes.now b.nodes.now a.start b.start p q o o' s s'
  going-last k m p q o o1 o' s s' h e f y g =
      let x = root a in
      let us = words_at a.nodes.now (a.start + 1) in
      let vs = words_at b.nodes.now (b.start + 1) in
      let T = mean a.nodes.now b.nodes.now s in
      let z = ap places_of (fellows-same x (root b) h) in
      let ea = root-words a in
      let eb = root-words b in
      let u = over x (root b) (drop (a.start + 1) a.nodes.now) (drop (b.start + 1) b.nodes.now) T (root-whole a) (root-whole b) h in
      let long = ap length y ∙ length_push o x in
      let gn : o' ++ [] ≡ o1 ++ codes (joins (first k us) (first k vs) T).0 = rw f at g.nodes in
      let gt : mean a.nodes.now b.nodes.now s' ≡ (joins (first k us) (first k vs) T).1 = rw f at g.table in
      record {
        left = walked-last a.nodes.now a.start (Variable 0) a.inside k m p e f g.left;
        right = walked-last b.nodes.now b.start (Variable 0) b.inside k m q (e ∙ z) f g.right;
        nodes =
            sym (append-nil o') ∙ gn ∙ ap (λ (z : List Node). z ++ codes (joins (first k us) (first k vs) T).0) y
            ∙ append_assoc o (x ∷ []) (codes (joins (first k us) (first k vs) T).0)
            ∙ ap (λ (l : List Node). o ++ l)
            (ap (λ (n : ℕ). x ∷ codes (joins (first n us) (first n vs) T).0) e
            ∙ sym u.nodes ∙ ap₂ (λ (v w : Word). code (join v w T).0) (ap hd (sym ea)) (ap hd (sym eb)));
        table =
            gt ∙ ap (λ (n : ℕ). (joins (first n us) (first n vs) T).1) e
            ∙ sym u.table ∙ ap₂ (λ (v w : Word). (join v w T).1) (ap hd (sym ea)) (ap hd (sym eb));
        known = g.known;
        room = omega (arith, g.room, g.left.from);
        spare = omega (arith, g.spare, g.left.from);
      }

  -- other words: the variable of their pair
  pub stands : (p q n : ℕ) (o o' : List Node) (s s' : List Pair) → ¬ Fellows (root a) (root b) → Next a.nodes.now a.start p → Next b.nodes.now b.start q →
      n ≡ place (mean a.nodes.now b.nodes.now s) (word_at a.nodes.now a.start) (word_at b.nodes.now b.start) → mean a.nodes.now b.nodes.now s' ≡ enter (mean a.nodes.now b.nodes.now s) (word_at a.nodes.now a.start) (word_at b.nodes.now b.start) → Inside a.nodes.now b.nodes.now s' → length s' ≤ length s + 1 →
      o' ≡ o ++ Variable n ∷ [] → Joined a.nodes.now b.nodes.now a.start b.start p q o o' s s'
  stands p q n o o' s s' h l r e f w t y =
      let ea = root-words a in
      let eb = root-words b in
      let z : join (word_at a.nodes.now a.start) (word_at b.nodes.now b.start) (mean a.nodes.now b.nodes.now s) ≡ stand (word_at a.nodes.now a.start) (word_at b.nodes.now b.start) (mean a.nodes.now b.nodes.now s) =
      ap₂ (λ (v w : Word). join v w (mean a.nodes.now b.nodes.now s)) (ap hd ea) (ap hd eb)
      ∙ apart (root a) (root b) (drop (a.start + 1) a.nodes.now) (drop (b.start + 1) b.nodes.now) (mean a.nodes.now b.nodes.now s) (root-whole a) (root-whole b) h
      ∙ ap₂ (λ (v w : Word). stand v w (mean a.nodes.now b.nodes.now s)) (ap hd (sym ea)) (ap hd (sym eb)) in
      let long = ap length y ∙ length_push o (Variable n) in
      record {
        left = l;
        right = r;
        nodes = y ∙ ap (λ (m : ℕ). o ++ Variable m ∷ []) e ∙ ap (λ (x : Word × Table). o ++ code x.0) (sym z);
        table = f ∙ ap (λ (x : Word × Table). x.1) (sym z);
        known = w;
        room = omega (arith, l.later, l.within);
        spare = omega (arith, l.later, l.within);
      }
