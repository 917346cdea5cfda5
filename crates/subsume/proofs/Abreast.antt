-- Two words side by side: a substitution turns what is still to come of the one into what is still to come of the other.
use Rattle.std.proofs.Common.{◌≡◌, ℕ, zero, suc, ◌+◌, ◌-◌, ◌<◌, ◌≤◌, List, length, get_or, drop, Some, None, sym, refl, ap, ◌∙◌, subst, ap₂, add-zero, add-suc, arith}
use Rattle.std.proofs.lemmas.List.{length-drop}
use Rattle.term.specs.Coding.{places_of, codes, first, after, hd, tl, Whole, words_at, word_at, Next}
use Rattle.term.specs.Joined.{Fellows}
use Rattle.term.specs.Matched.{Turns}
use Rattle.term.specs.Words.{Word, Words, nil, cons, ◌+++◌, len, sub, subs}
use Rattle.term.specs.declared.node.Node.{Node}
use Rattle.term.specs.declared.walk.WordAt.{WordAt}
use Rattle.term.specs.declared.node.Node.TheVariants.{Variable, Applied}
use Rattle.term.proofs.Codings.{after_one, len-tl, code-decode, whole_drop, at_words, at-whole, len-at, words-in, on}
use Rattle.term.proofs.Joinings.{fellows-same}
use Rattle.term.proofs.Matchings.{turns-never, turns-places, turns-first}
use Rattle.term.proofs.Walked.{tl-places}
use Rattle.subsume.specs.Meeting.{Abreast, Stepped}

-- so many words, and those after them
first-add : (k n : ℕ) (us : Words) → first (n + k) us ≡ first k us +++ first n (after k us)
first-add zero n us = ap (λ (m : ℕ). first m us) (add-zero n)
first-add (suc k) zero nil = ap (λ (m : ℕ). first m nil) (add-suc 0 k)
first-add (suc k) (suc n) nil = ap (λ (m : ℕ). first m nil) (add-suc (suc n) k)
first-add (suc k) n (cons u us) = ap (λ (m : ℕ). first m (cons u us)) (add-suc n k) ∙ ap (cons u) (first-add k n us)

subs-more : (θ : ℕ → Word) (us vs : Words) → subs θ (us +++ vs) ≡ subs θ us +++ subs θ vs
subs-more θ nil vs = refl
subs-more θ (cons u us) vs = ap (cons (sub θ u)) (subs-more θ us vs)

-- a place is known by the words from it on
same_place : (a : List Node) (p q : ℕ) → Whole a → p ≤ length a → q ≤ length a → words_at a p ≡ words_at a q → p ≡ q
same_place a p q w hp hq e =
    let long : (n : ℕ) → length (codes (words_at a n)) ≡ length a - n = λ n. ap length (code-decode (drop n a) (whole_drop n a w)) ∙ length-drop n a in
    omega (arith, long p, long q, ap (λ (us : Words). length (codes us)) e)

module _ (u v : WordAt) where
  abbrev a : List Node
  a = u.nodes.now

  abbrev b : List Node
  b = v.nodes.now

  abbrev i : ℕ
  i = u.start

  abbrev j : ℕ
  j = v.start

  abbrev wa : Whole a
  wa = u.whole

  abbrev wb : Whole b
  wb = v.whole

  abbrev hi : i < length a
  hi = u.inside

  abbrev hj : j < length b
  hj = v.inside

  pub abreast-first : Abreast a b i j i j
  abreast-first = record {
    m = 1;
    left = len-at a i hi;
    right = len-at b j hj;
    rest = after_one (words_at a i);
    turns = λ θ t. (turns-first (words_at a i) (words_at b j) 1 (omega arith) (len-at a i hi) (len-at b j hj) θ).1 t refl;
  }

  module _ (at q : ℕ) (g : Abreast a b i j at q) where
    -- before the word's end words are still to come
    some_left : (e : ℕ) → Next a i e → at < e → 0 < g.m
    some_left e n h = some g.m g.rest
      where
        some : (m : ℕ) → after m (words_at a at) ≡ tl (words_at a i) → 0 < m
        some zero r = let inside = n.within in let same : at ≡ e = same_place a at e wa (omega arith) n.within (r ∙ sym n.rest) in absurd (omega arith)
        some (suc m) r = omega arith

    pub inside : (e : ℕ) → Next a i e → at < e → (at < length a) × (q < length b)
    inside e n h = let s = some_left e n h in (words-in a at g.m s g.left, words-in b q g.m s g.right)

    module _ (e : ℕ) (n : Next a i e) (h : at < e) where
      here : (θ : ℕ → Word) → Turns a i b j θ → (sub θ (word_at a at) ≡ word_at b q) × (subs θ (first (g.m - 1) (tl (words_at a at))) ≡ first (g.m - 1) (tl (words_at b q)))
      here θ t =
          let s = some_left e n h in
          (turns-first (words_at a at) (words_at b q) g.m s (omega (arith, g.left)) (omega (arith, g.right)) θ).0 (g.turns θ t)

      -- the node here is met at q
      pub met-here : (q < length b) × ((θ : ℕ → Word) → Turns a i b j θ → sub θ (word_at a at) ≡ word_at b q)
      met-here = ((inside e n h).1, λ θ t. (here θ t).0)

      pub abreast-on : (x : Node) → get_or a at (Variable 0) ≡ x → (next : ℕ) → Stepped x b q (Some next) → Abreast a b i j (at + 1) next
      abreast-on (Variable v) is next step =
          let s = some_left e n h in
          let o = on a at g.m (Variable 0) wa s g.left in
          let none : g.m - 1 + places_of (get_or a at (Variable 0)) ≡ g.m - 1 = omega (arith, ap places_of is) in
          let tail : tl (words_at a at) ≡ words_at a (at + 1) =
          ap tl (at_words a at (Variable 0) (inside e n h).0) ∙ tl-places (get_or a at (Variable 0)) (drop (at + 1) a) ∙ ap (λ (k : ℕ). after k (words_at a (at + 1))) (ap places_of is) in
          record {
            m = g.m - 1;
            left = omega (arith, o.enough, none);
            right = omega (arith, g.right, ap len step.rest, len-tl (words_at b q));
            rest = ap (λ (k : ℕ). after k (words_at a (at + 1))) (sym none) ∙ o.same ∙ g.rest;
            turns = λ θ t. ap (λ (us : Words). subs θ (first (g.m - 1) us)) (sym tail) ∙ (here θ t).1 ∙ ap (first (g.m - 1)) (sym step.rest);
          }
      abreast-on (Applied f k) is next step =
          let s = some_left e n h in
          let x = get_or a at (Variable 0) in
          let y = get_or b q (Variable 0) in
          let ha = (inside e n h).0 in
          let hb = (inside e n h).1 in
          let alike : Fellows x y = subst (λ (z : Node). Fellows z y) (sym is) step.0 in
          let places : places_of y ≡ places_of x = sym (ap places_of (fellows-same x y alike)) in
          let oa = on a at g.m (Variable 0) wa s g.left in
          let ob = on b q g.m (Variable 0) wb s g.right in
          let m = g.m - 1 + places_of x in
          let A = words_at a (at + 1) in
          let B = words_at b (q + 1) in
          let tail-a : tl (words_at a at) ≡ after (places_of x) A = ap tl (at_words a at (Variable 0) ha) ∙ tl-places x (drop (at + 1) a) in
          let tail-b : tl (words_at b q) ≡ after (places_of x) B = ap tl (at_words b q (Variable 0) hb) ∙ tl-places y (drop (q + 1) b) ∙ ap (λ (l : ℕ). after l B) places in
          subst (Abreast a b i j (at + 1)) (sym step.1)
          (record {
            m = m;
            left = oa.enough;
            right = omega (arith, ob.enough, places);
            rest = oa.same ∙ g.rest;
            turns = λ θ t.
                let both = here θ t in
                let inner : subs θ (first (places_of x) A) ≡ first (places_of x) B =
                (turns-places x y (drop (at + 1) a) (drop (q + 1) b) alike θ).0 (ap (sub θ) (ap hd (sym (at_words a at (Variable 0) ha))) ∙ both.0 ∙ ap hd (at_words b q (Variable 0) hb)) in
                let outer : subs θ (first (g.m - 1) (after (places_of x) A)) ≡ first (g.m - 1) (after (places_of x) B) =
                ap (λ (us : Words). subs θ (first (g.m - 1) us)) (sym tail-a) ∙ both.1 ∙ ap (first (g.m - 1)) tail-b in
                ap (subs θ) (first-add (places_of x) (g.m - 1) A)
                ∙ subs-more θ (first (places_of x) A) (first (g.m - 1) (after (places_of x) A))
                ∙ ap₂ ◌+++◌ inner outer
                ∙ sym (first-add (places_of x) (g.m - 1) B);
          })

      -- the words differ here
      pub abreast-never : (x : Node) → get_or a at (Variable 0) ≡ x → Stepped x b q None → (θ : ℕ → Word) → Turns a i b j θ → ⊥
      abreast-never (Variable v) is step θ t = step
      abreast-never (Applied f k) is step θ t =
          let x = get_or a at (Variable 0) in
          let y = get_or b q (Variable 0) in
          let ha = (inside e n h).0 in
          let hb = (inside e n h).1 in
          turns-never x y (drop (at + 1) a) (drop (q + 1) b) (at-whole a at (Variable 0) ha wa) (at-whole b q (Variable 0) hb wb)
          (λ v z. let w : Variable v ≡ Applied f k = sym z ∙ is in let o : ◌≡◌ {A = ℕ} 0 1 = cc in omega arith)
          (λ alike. step (subst (λ (z : Node). Fellows z y) is alike)) θ
          (ap (sub θ) (ap hd (sym (at_words a at (Variable 0) ha))) ∙ (here θ t).0 ∙ ap hd (at_words b q (Variable 0) hb))
