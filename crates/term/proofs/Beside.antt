-- Two words that are read side by side, node by node.
use Rattle.std.proofs.Common.{◌≡◌, ℕ, zero, suc, ◌+◌, ◌-◌, ◌<◌, ◌≤◌, List, ◌∷◌, length, get_or, drop, sym, refl, ap, ap₂, subst, ◌∙◌, add-zero, add-suc, sub-one, arith}
use Rattle.term.specs.declared.node.Node.{Node}
use Rattle.term.specs.declared.node.Node.TheVariants.{Variable, Applied}
use Rattle.term.specs.Words.{Word, var, app, Words, nil, cons, ◌+++◌, len}
use Rattle.term.specs.Coding.{places_of, first, after, hd, tl, decode, Whole, words_at, word_at}
use Rattle.term.proofs.Codings.{len-first, len-at, at_words, at-whole, words-in, on}

-- the first words of some
first-none : (m : ℕ) → first m nil ≡ nil
first-none zero = refl
first-none (suc m) = refl

first-one : (us : Words) → 1 ≤ len us → first 1 us ≡ cons (hd us) nil
first-one nil h = absurd (omega arith)
first-one (cons u us) h = refl

first-parts : (m k : ℕ) (us : Words) → first (m + k) us ≡ first k us +++ first m (after k us)
first-parts m zero us = ap (λ (n : ℕ). first n us) (add-zero m)
first-parts m (suc k) nil = first-none (m + suc k) ∙ sym (first-none m)
first-parts m (suc k) (cons u us) = ap (λ (n : ℕ). first n (cons u us)) (add-suc m k) ∙ ap (cons u) (first-parts m k us)

first-fewer : (m k : ℕ) (us : Words) → first k (first (m + k) us) ≡ first k us
first-fewer m zero us = refl
first-fewer m (suc k) nil = ap (first (suc k)) (first-none (m + suc k))
first-fewer m (suc k) (cons u us) = ap (λ (n : ℕ). first (suc k) (first n (cons u us))) (add-suc m k) ∙ ap (cons u) (first-fewer m k us)

after-first : (m k : ℕ) (us : Words) → after k (first (m + k) us) ≡ first m (after k us)
after-first m zero us = ap (λ (n : ℕ). first n us) (add-zero m)
after-first m (suc k) nil = ap (after (suc k)) (first-none (m + suc k)) ∙ sym (first-none m)
after-first m (suc k) (cons u us) = ap (λ (n : ℕ). after (suc k) (first n (cons u us))) (add-suc m k) ∙ after-first m k us

-- words that are the same begin with the same node
same-node : (x y : Node) (xs ys : List Node) (n : ℕ) → Whole (x ∷ xs) → Whole (y ∷ ys) → 0 < n → first n (decode (x ∷ xs)) ≡ first n (decode (y ∷ ys)) → x ≡ y
unfolding Whole decode
same-node x y xs ys zero v w h e = absurd (omega arith)
same-node (Variable x) (Variable y) xs ys (suc n) v w h e = cc
same-node (Applied s k) (Applied t l) xs ys (suc n) v w h e =
    let same : first k (decode xs) ≡ first l (decode ys) = cc in
    ap₂ Applied (cc) (sym (len-first k (decode xs) v.0) ∙ ap len same ∙ len-first l (decode ys) w.0)
same-node x y xs ys (suc n) v w h e = absurd (cc)

-- one node on, where the nodes are the same
same_on : (x : Node) (xs ys : List Node) (n : ℕ) → 0 < n → first n (decode (x ∷ xs)) ≡ first n (decode (x ∷ ys)) → first (n - 1 + places_of x) (decode xs) ≡ first (n - 1 + places_of x) (decode ys)
unfolding decode
same_on x xs ys zero h e = absurd (omega arith)
same_on (Variable x) xs ys (suc n) h e = rw (sub-one, add-zero) (ap tl e)
same_on (Applied s k) xs ys (suc n) h e =
    let same : first k (decode xs) ≡ first k (decode ys) = cc in
    rw sub-one (first-parts n k (decode xs) ∙ ap₂ (◌+++◌) same (ap tl e) ∙ sym (first-parts n k (decode ys)))

same-back : (x : Node) (xs ys : List Node) (n : ℕ) → 0 < n → first (n - 1 + places_of x) (decode xs) ≡ first (n - 1 + places_of x) (decode ys) → first n (decode (x ∷ xs)) ≡ first n (decode (x ∷ ys))
unfolding decode
same-back x xs ys zero h e = absurd (omega arith)
same-back (Variable x) xs ys (suc n) h e = ap (cons (var x)) (rw (sub-one, add-zero) at e)
same-back (Applied s k) xs ys (suc n) h e =
    let f : first (n + k) (decode xs) ≡ first (n + k) (decode ys) = rw sub-one at e in
    ap₂ (λ (us vs : Words). cons (app s us) vs)
    (sym (first-fewer n k (decode xs)) ∙ ap (first k) f ∙ first-fewer n k (decode ys))
    (sym (after-first n k (decode xs)) ∙ ap (after k) f ∙ after-first n k (decode ys))

-- n words are still to come from p and from q on, and the words at i and j are the same just if those are
pub record Beside (a b : List Node) (i j p q n : ℕ) : Type 0 where
  pub within : (p ≤ length a) × (q ≤ length b)
  pub left : n ≤ len (words_at a p)
  pub right : n ≤ len (words_at b q)
  pub on : word_at a i ≡ word_at b j → first n (words_at a p) ≡ first n (words_at b q)
  pub back : first n (words_at a p) ≡ first n (words_at b q) → word_at a i ≡ word_at b j

module _ (a b : List Node) (i j : ℕ) where
  pub beside-first : i < length a → j < length b → Beside a b i j i j 1
  beside-first h k =
      let l = len-at a i h in
      let r = len-at b j k in
      let x = first-one (words_at a i) l in
      let y = first-one (words_at b j) r in
      record {
        within = (omega (arith, h), omega (arith, k));
        left = l;
        right = r;
        on = λ e. x ∙ ap (λ (u : Word). cons u nil) e ∙ sym y;
        back = λ e. ap hd (sym x ∙ e ∙ y);
      }

  module _ (p q n : ℕ) (d : Node) (v : Whole a) (w : Whole b) (h : 0 < n) (g : Beside a b i j p q n) where
    pub beside-same : word_at a i ≡ word_at b j → get_or a p d ≡ get_or b q d
    beside-same e =
        let k = words-in a p n h g.left in
        let l = words-in b q n h g.right in
        same-node _ _ (drop (p + 1) a) (drop (q + 1) b) n (at-whole a p d k v) (at-whole b q d l w) h
        (sym (ap (first n) (at_words a p d k)) ∙ g.on e ∙ ap (first n) (at_words b q d l))

    pub beside_on : get_or a p d ≡ get_or b q d → Beside a b i j (p + 1) (q + 1) (n - 1 + places_of (get_or a p d))
    beside_on e =
        let x = get_or a p d in
        let xs = drop (p + 1) a in
        let ys = drop (q + 1) b in
        let k = words-in a p n h g.left in
        let l = words-in b q n h g.right in
        let left : words_at a p ≡ decode (x ∷ xs) = at_words a p d k in
        let right : words_at b q ≡ decode (x ∷ ys) = at_words b q d l ∙ ap (λ (y : Node). decode (y ∷ ys)) (sym e) in
        record {
          within = (omega (arith, k), omega (arith, l));
          left = (on a p n d v h g.left).enough;
          right = subst (λ (y : Node). n - 1 + places_of y ≤ len (words_at b (q + 1))) (sym e) (on b q n d w h g.right).enough;
          on = λ f. same_on x xs ys n h (sym (ap (first n) left) ∙ g.on f ∙ ap (first n) right);
          back = λ f. g.back (ap (first n) left ∙ same-back x xs ys n h f ∙ sym (ap (first n) right));
        }
