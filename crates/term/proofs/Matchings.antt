-- Matching of words, place by place.
use Rattle.std.proofs.Common.{◌≡◌, ℕ, zero, suc, ◌+◌, ◌-◌, ◌<◌, ◌≤◌, max, Bool, true, false, ◌&&◌, ltb, leb, List, [], ◌∷◌, length, get_or, drop, set, replicate, Some, None, Decides, MatchBool, Option, sym, refl, ap, ◌∙◌, subst, ap₂, inl, inr, arith, get_or-set_other, get_or-set_same}
use Rattle.std.proofs.lemmas.Bool.{cases_eq, false≢true, and_parts, leb-true}
use Rattle.term.specs.declared.node.Node.{Node}
use Rattle.term.specs.declared.node.Node.TheVariants.{Variable, Applied}
use Rattle.term.specs.declared.node.Symbol.{Symbol}
use Rattle.term.specs.declared.walk.WordAt.{WordAt}
use Rattle.term.specs.Words.{Word, var, app, Words, cons, len, sub, subs}
use Rattle.term.specs.Coding.{places_of, first, hd, tl, decode, Whole, words_at, word_at, Next}
use Rattle.term.specs.Joined.{Fellows}
use Rattle.term.specs.Lawful.{functional, lawful}
use Rattle.term.specs.Matched.{Bindings, Below, Placed, Agrees, Narrowed, Matched}
use Rattle.term.proofs.Substitutions.{len-subs}
use Rattle.term.proofs.Codings.{len-first}
use Rattle.term.proofs.Walked.{root, root-words, root-whole, Walked, first_step, walked-some, walked_on, walked-first, walked-last}
use Rattle.term.proofs.Joinings.{fellows-same}

none-bound : (n x : ℕ) → ◌≡◌ {A = Option ℕ} (get_or (replicate n None) x None) None
none-bound zero x = refl
none-bound (suc n) zero = refl
none-bound (suc n) (suc x) = none-bound n x

-- a variable that stands for nothing yet
pub bind-new : (target : List Node) (bound : Bindings) (x j : ℕ) → j < length target → Placed target bound → x < length bound → get_or bound x None ≡ None →
    Narrowed target bound (set bound x (Some j)) (λ θ. θ x ≡ word_at target j)
unfolding Placed Agrees
bind-new target bound x j h p k e =
    let here : get_or (set bound x (Some j)) x None ≡ Some j = get_or-set_same bound x (Some j) None k in
    record {
      placed = λ y q f. elim (cases_eq y x) [
        | inl z ↦ let s : j ≡ q = cc in omega arith
        | inr n ↦ p y q (sym (get_or-set_other bound x y (Some j) None n) ∙ f)
      ];
      back = λ θ a. (
        λ y q f. elim (cases_eq y x) [
          | inl z ↦ cc
          | inr n ↦ a y q (get_or-set_other bound x y (Some j) None n ∙ f)
        ],
        a x j here,
      );
      on = λ θ a t y q f. elim (cases_eq y x) [
        | inl z ↦
            let s : j ≡ q = cc in
            ap θ z ∙ t ∙ ap (word_at target) s
        | inr n ↦ a y q (sym (get_or-set_other bound x y (Some j) None n) ∙ f)
      ];
    }

-- a variable that stands for the same word already
pub bind-same : (target : List Node) (bound : Bindings) (x j q : ℕ) → Placed target bound → get_or bound x None ≡ Some q → word_at target q ≡ word_at target j →
    Narrowed target bound bound (λ θ. θ x ≡ word_at target j)
unfolding Agrees
bind-same target bound x j q p e s = record { placed = p; back = λ θ a. (a, a x q e ∙ s); on = λ θ a t. a }

pub bind-other : (target : List Node) (bound : Bindings) (x j q : ℕ) → get_or bound x None ≡ Some q → (word_at target q ≡ word_at target j → ⊥) →
    (θ : ℕ → Word) → Agrees target bound θ → θ x ≡ word_at target j → ⊥
unfolding Agrees
bind-other target bound x j q e n θ a t = n (sym (a x q e) ∙ t)

pub bind-asked : (target : List Node) (bound : Bindings) (x j q : ℕ) (r : Bool) → Placed target bound → get_or bound x None ≡ Some q → Decides r (word_at target q ≡ word_at target j) →
    MatchBool r (Narrowed target bound bound (λ θ. θ x ≡ word_at target j)) ((θ : ℕ → Word) → Agrees target bound θ → θ x ≡ word_at target j → ⊥)
bind-asked target bound x j q true p e d = bind-same target bound x j q p e (d.0 refl)
bind-asked target bound x j q false p e d = bind-other target bound x j q e (λ h. false≢true (d.1 h))

pub placed_at : (target : List Node) (bound : Bindings) (x q : ℕ) → Placed target bound → get_or bound x None ≡ Some q → q < length target
unfolding Placed
placed_at target bound x q p e = p x q e

-- every variable of the nodes is below n
pub below_at : (n : ℕ) (nodes : List Node) (i x : ℕ) (d : Node) → Below n nodes → i < length nodes → get_or nodes i d ≡ Variable x → x < n
unfolding Below
below_at n [] i x d b h e = absurd (omega arith)
below_at n (Variable y ∷ nodes) zero x d b h e = let s : y ≡ x = cc in omega (arith, b.0)
below_at n (Variable y ∷ nodes) (suc i) x d b h e = below_at n nodes i x d b.1 (omega arith) e
below_at n (Applied s k ∷ nodes) zero x d b h e = cc
below_at n (Applied s k ∷ nodes) (suc i) x d b h e = below_at n nodes i x d b (omega arith) e

pub below_more : (m n : ℕ) (nodes : List Node) → m ≤ n → Below m nodes → Below n nodes
unfolding Below
below_more m n [] h b = tt
below_more m n (Variable x ∷ nodes) h b = (omega (arith, b.0), below_more m n nodes h b.1)
below_more m n (Applied s k ∷ nodes) h b = below_more m n nodes h b

pub lawful-below : (nodes : List Node) (need seen : ℕ) → lawful nodes need seen ≡ true → Below (seen + length nodes) nodes
unfolding Below lawful
lawful-below [] need seen e = tt
lawful-below (Variable x ∷ nodes) need seen e =
    let p = and_parts (ltb 0 need) (leb x seen && lawful nodes (need - 1) (max seen (suc x))) e in
    let q = and_parts (leb x seen) (lawful nodes (need - 1) (max seen (suc x))) p.1 in
    let l = leb-true x seen q.0 in
    (omega arith, below_more (max seen (suc x) + length nodes) (seen + suc (length nodes)) nodes (omega arith) (lawful-below nodes (need - 1) (max seen (suc x)) q.1))
lawful-below (Applied s k ∷ nodes) need seen e =
    let p = and_parts (ltb 0 need) ((functional s && leb k 8) && lawful nodes (need - 1 + k) seen) e in
    let q = and_parts (functional s && leb k 8) (lawful nodes (need - 1 + k) seen) p.1 in
    below_more (seen + length nodes) (seen + suc (length nodes)) nodes (omega arith) (lawful-below nodes (need - 1 + k) seen q.1)

-- one node against one node
pub turns-variable : (x : Node) (nodes : List Node) (v : ℕ) → x ≡ Variable v → hd (decode (x ∷ nodes)) ≡ var v
unfolding decode
turns-variable x nodes v e = ap (λ (y : Node). hd (decode (y ∷ nodes))) e

app-parts : (s t : Symbol) (us vs : Words) → app s us ≡ app t vs → (s ≡ t) × (us ≡ vs)
app-parts s t us vs e = (cc, cc)

-- other symbols: no substitution turns the one word into the other
pub turns-never : (x y : Node) (r s : List Node) → Whole (x ∷ r) → Whole (y ∷ s) → ((v : ℕ) → x ≡ Variable v → ⊥) → ¬ Fellows x y → (θ : ℕ → Word) → sub θ (hd (decode (x ∷ r))) ≡ hd (decode (y ∷ s)) → ⊥
unfolding decode Whole
turns-never (Variable v) y r s a b n f θ e = n v refl
turns-never (Applied f k) (Variable y) r s a b n h θ e = cc
turns-never (Applied f k) (Applied g l) r s a b n h θ e =
    let us = first k (decode r) in
    let p = app-parts f g (subs θ us) (first l (decode s)) e in
    h (p.0, sym (len-first k (decode r) a.0) ∙ sym (len-subs θ us) ∙ ap len p.1 ∙ len-first l (decode s) b.0)

-- the same symbol: the word turns exactly when its places do
pub turns-places : (x y : Node) (r s : List Node) → Fellows x y → (θ : ℕ → Word) →
    (sub θ (hd (decode (x ∷ r))) ≡ hd (decode (y ∷ s)) → subs θ (first (places_of x) (decode r)) ≡ first (places_of x) (decode s))
    × (subs θ (first (places_of x) (decode r)) ≡ first (places_of x) (decode s) → sub θ (hd (decode (x ∷ r))) ≡ hd (decode (y ∷ s)))
unfolding decode
turns-places (Variable v) y r s h θ = absurd h
turns-places (Applied f k) (Variable y) r s h θ = absurd h
turns-places (Applied f k) (Applied g l) r s h θ = (
  λ e. (app-parts f g (subs θ (first k (decode r))) (first l (decode s)) e).1 ∙ ap (λ (n : ℕ). first n (decode s)) (sym h.1),
  λ e. ap₂ app h.0 (e ∙ ap (λ (n : ℕ). first n (decode s)) h.1),
)

-- one word of several
pub turns-first : (us vs : Words) (m : ℕ) → 0 < m → 1 ≤ len us → 1 ≤ len vs → (θ : ℕ → Word) →
    (subs θ (first m us) ≡ first m vs → (sub θ (hd us) ≡ hd vs) × (subs θ (first (m - 1) (tl us)) ≡ first (m - 1) (tl vs)))
    × ((sub θ (hd us) ≡ hd vs) → (subs θ (first (m - 1) (tl us)) ≡ first (m - 1) (tl vs)) → subs θ (first m us) ≡ first m vs)
turns-first us vs m h p q θ =
    let eu = first_step m us h p in
    let ev = first_step m vs h q in (
      λ e. let z : cons (sub θ (hd us)) (subs θ (first (m - 1) (tl us))) ≡ cons (hd vs) (first (m - 1) (tl vs)) = ap (subs θ) (sym eu) ∙ e ∙ ev in (cc, cc),
      λ a b. ap (subs θ) eu ∙ ap₂ cons a b ∙ sym ev,
    )

-- of k words from p0 and q0 on, m are still to be matched, from p and q on
pub record Going (P B : List Node) (k m p q : ℕ) (bound : Bindings) (p0 q0 : ℕ) (bound0 : Bindings) : Type 0 where
  pub left : Walked P k m p p0
  pub right : Walked B k m q q0
  pub placed : Placed B bound
  pub on : (θ : ℕ → Word) → Agrees B bound0 θ → subs θ (first k (words_at P p0)) ≡ first k (words_at B q0) → Agrees B bound θ × (subs θ (first m (words_at P p)) ≡ first m (words_at B q))
  pub back : (θ : ℕ → Word) → Agrees B bound θ → subs θ (first m (words_at P p)) ≡ first m (words_at B q) → Agrees B bound0 θ × (subs θ (first k (words_at P p0)) ≡ first k (words_at B q0))

module _ (P B : List Node) where
  module _ (k m p q : ℕ) (bound : Bindings) (p0 q0 : ℕ) (bound0 : Bindings) (h : 0 < m) (g : Going P B k m p q bound p0 q0 bound0) where
    one_word : (θ : ℕ → Word) →
        (subs θ (first m (words_at P p)) ≡ first m (words_at B q) → (sub θ (word_at P p) ≡ word_at B q) × (subs θ (first (m - 1) (tl (words_at P p))) ≡ first (m - 1) (tl (words_at B q))))
        × ((sub θ (word_at P p) ≡ word_at B q) → (subs θ (first (m - 1) (tl (words_at P p))) ≡ first (m - 1) (tl (words_at B q))) → subs θ (first m (words_at P p)) ≡ first m (words_at B q))
    one_word = turns-first (words_at P p) (words_at B q) m h (walked-some P k m p p0 h g.left) (walked-some B k m q q0 h g.right)

    pub going_on : (m' p' q' : ℕ) (bound' : Bindings) → m' ≡ m - 1 → Matched P p B q bound (Some (p', q')) bound' → Going P B k m' p' q' bound' p0 q0 bound0
    going_on m' p' q' bound' e w =
        record {
          left = walked_on P k m m' p p' p0 h e g.left w.0;
          right = walked_on B k m m' q q' q0 h e g.right w.1;
          placed = w.2.placed;
          on = λ θ a t.
              let b = g.on θ a t in
              let c = (one_word θ).0 b.1 in
              (w.2.on θ b.0 c.0, rw (e, w.0.rest, w.1.rest) c.1);
          back = λ θ a t.
              let b = w.2.back θ a in
              g.back θ b.0 ((one_word θ).1 b.1 (rw (e, w.0.rest, w.1.rest) at t));
        }

    pub going-never : Matched P p B q bound None bound → (θ : ℕ → Word) → Agrees B bound0 θ → subs θ (first k (words_at P p0)) ≡ first k (words_at B q0) → ⊥
    going-never w θ a t = let b = g.on θ a t in w θ b.0 ((one_word θ).0 b.1).0

module _ (P B : WordAt) where
  -- a variable
  pub match-variable : (x q : ℕ) (before after : Bindings) → root P ≡ Variable x → Next B.nodes.now B.start q → Narrowed B.nodes.now before after (λ θ. θ x ≡ word_at B.nodes.now B.start) → Matched P.nodes.now P.start B.nodes.now B.start before (Some (P.start + 1, q)) after
  match-variable x q before after e n w =
      let is : word_at P.nodes.now P.start ≡ var x = ap hd (root-words P) ∙ turns-variable (root P) (drop (P.start + 1) P.nodes.now) x e in
      let none : 0 ≡ places_of (root P) = sym (ap places_of e) in (
        walked-last P.nodes.now P.start (Variable 0) P.inside 0 0 (P.start + 1) none refl (walked-first P.nodes.now P.start (Variable 0) P.inside 0 0 P.whole none refl),
        n,
        subst (λ (u : Word). Narrowed B.nodes.now before after (λ θ. sub θ u ≡ word_at B.nodes.now B.start)) (sym is) w,
      )

  pub match-variable-never : (x : ℕ) (before after : Bindings) → root P ≡ Variable x → ((θ : ℕ → Word) → Agrees B.nodes.now before θ → θ x ≡ word_at B.nodes.now B.start → ⊥) → Matched P.nodes.now P.start B.nodes.now B.start before None after
  match-variable-never x before after e n θ a t =
      let is : word_at P.nodes.now P.start ≡ var x = ap hd (root-words P) ∙ turns-variable (root P) (drop (P.start + 1) P.nodes.now) x e in
      n θ a (ap (sub θ) (sym is) ∙ t)

  -- other symbols
  pub match-never : (before after : Bindings) → ((v : ℕ) → root P ≡ Variable v → ⊥) → ¬ Fellows (root P) (root B) → Matched P.nodes.now P.start B.nodes.now B.start before None after
  match-never before after n f θ a t =
      turns-never (root P) (root B) (drop (P.start + 1) P.nodes.now) (drop (B.start + 1) B.nodes.now) (root-whole P) (root-whole B) n f θ
      (ap (sub θ) (ap hd (sym (root-words P))) ∙ t ∙ ap hd (root-words B))

  -- the same symbol
  module _ (f : Fellows (root P) (root B)) (k : ℕ) (e : k ≡ places_of (root P)) where
    in-places : (θ : ℕ → Word) → (sub θ (word_at P.nodes.now P.start) ≡ word_at B.nodes.now B.start → subs θ (first k (words_at P.nodes.now (P.start + 1))) ≡ first k (words_at B.nodes.now (B.start + 1)))
        × (subs θ (first k (words_at P.nodes.now (P.start + 1))) ≡ first k (words_at B.nodes.now (B.start + 1)) → sub θ (word_at P.nodes.now P.start) ≡ word_at B.nodes.now B.start)
    in-places θ =
        let t = turns-places (root P) (root B) (drop (P.start + 1) P.nodes.now) (drop (B.start + 1) B.nodes.now) f θ in
        let ep = ap hd (root-words P) in
        let eb = ap hd (root-words B) in
        (λ h. rw e (t.0 (ap (sub θ) (sym ep) ∙ h ∙ eb)), λ h. ap (sub θ) ep ∙ t.1 (rw e at h) ∙ sym eb)

    pub going-first : (m : ℕ) (bound : Bindings) → m ≡ k → Placed B.nodes.now bound → Going P.nodes.now B.nodes.now k m (P.start + 1) (B.start + 1) bound (P.start + 1) (B.start + 1) bound
    going-first m bound z w =
        let same = ap places_of (fellows-same (root P) (root B) f) in
        record {
          left = walked-first P.nodes.now P.start (Variable 0) P.inside k m P.whole e z;
          right = walked-first B.nodes.now B.start (Variable 0) B.inside k m B.whole (e ∙ same) z;
          placed = w;
          on = λ θ a t. (a, rw z t);
          back = λ θ a t. (a, rw z at t);
        }

    pub going-last : (m p q : ℕ) (before after : Bindings) → m ≡ 0 → Going P.nodes.now B.nodes.now k m p q after (P.start + 1) (B.start + 1) before → Matched P.nodes.now P.start B.nodes.now B.start before (Some (p, q)) after
    going-last m p q before after z g =
        let same = ap places_of (fellows-same (root P) (root B) f) in
        let done : (θ : ℕ → Word) → subs θ (first m (words_at P.nodes.now p)) ≡ first m (words_at B.nodes.now q) = λ θ. rw z refl in (
          walked-last P.nodes.now P.start (Variable 0) P.inside k m p e z g.left,
          walked-last B.nodes.now B.start (Variable 0) B.inside k m q (e ∙ same) z g.right,
          record {
            placed = g.placed;
            back = λ θ a. let b = g.back θ a (done θ) in (b.0, (in-places θ).1 b.1);
            on = λ θ a t. (g.on θ a ((in-places θ).0 t)).0;
          },
        )

    pub going-stops : (m p q : ℕ) (before bound after : Bindings) → 0 < m → Going P.nodes.now B.nodes.now k m p q bound (P.start + 1) (B.start + 1) before → Matched P.nodes.now p B.nodes.now q bound None after → Matched P.nodes.now P.start B.nodes.now B.start before None after
    going-stops m p q before bound after h g w θ a t = going-never P.nodes.now B.nodes.now k m p q bound (P.start + 1) (B.start + 1) before h g w θ a ((in-places θ).0 t)

-- some substitution agrees with the bindings
put : List Node → ℕ → Option ℕ → Word
put target x None = var x
put target x (Some q) = word_at target q

pub agreeing : (target : List Node) (bound : Bindings) → (θ : ℕ → Word) × Agrees target bound θ
unfolding Agrees put
agreeing target bound = (λ x. put target x (get_or bound x None), λ x q e. ap (put target x) e)

-- where nothing is bound, every substitution agrees
pub none-placed : (target : List Node) (n : ℕ) → Placed target (replicate n None)
unfolding Placed
none-placed target n x q e = cc (none-bound n x)

pub none-agrees : (target : List Node) (n : ℕ) (θ : ℕ → Word) → Agrees target (replicate n None) θ
unfolding Agrees
none-agrees target n θ x q e = cc (none-bound n x)
