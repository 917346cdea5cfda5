-- A walk over the words in the places of a symbol.
use Rattle.std.proofs.Common.{◌≡◌, ℕ, zero, suc, ◌+◌, ◌-◌, ◌<◌, ◌≤◌, List, ◌∷◌, length, get_or, drop, sym, refl, ap, ◌∙◌, sub-one, arith}
use Rattle.term.specs.declared.node.Node.{Node}
use Rattle.term.specs.declared.node.Node.TheVariants.{Variable, Applied}
use Rattle.term.specs.declared.walk.WordAt.{WordAt}
use Rattle.term.specs.Words.{Words, nil, cons, len}
use Rattle.term.specs.Coding.{places_of, first, after, hd, tl, decode, Whole, words_at, Next}
use Rattle.term.proofs.Codings.{len-tl, at_words, at-whole, len-at, on, words-in}

pub first_step : (m : ℕ) (us : Words) → 0 < m → 1 ≤ len us → first m us ≡ cons (hd us) (first (m - 1) (tl us))
first_step zero us p q = absurd (omega arith)
first_step (suc m) nil p q = absurd (omega arith)
first_step (suc m) (cons u us) p q = rw sub-one

after-step : (m : ℕ) (us : Words) → 0 < m → 1 ≤ len us → after (m - 1) (tl us) ≡ after m us
after-step zero us p q = absurd (omega arith)
after-step (suc m) nil p q = absurd (omega arith)
after-step (suc m) (cons u us) p q = rw sub-one

pub tl-places : (x : Node) (nodes : List Node) → tl (decode (x ∷ nodes)) ≡ after (places_of x) (decode nodes)
unfolding decode
tl-places (Variable x) nodes = refl
tl-places (Applied s k) nodes = refl

-- the first node of a word, and the nodes from it on
abbrev pub root : WordAt → Node
root w = get_or w.nodes.now w.start (Variable 0)

pub root-words : (w : WordAt) → words_at w.nodes.now w.start ≡ decode (root w ∷ drop (w.start + 1) w.nodes.now)
root-words w = at_words w.nodes.now w.start (Variable 0) w.inside

pub root-whole : (w : WordAt) → Whole (root w ∷ drop (w.start + 1) w.nodes.now)
root-whole w = at-whole w.nodes.now w.start (Variable 0) w.inside w.whole

-- of the k words from start on, m are still to come, from p on
pub record Walked (nodes : List Node) (k m p start : ℕ) : Type 0 where
  pub from : start ≤ p
  pub within : p ≤ length nodes
  pub more : m ≤ len (words_at nodes p)
  pub rest : after m (words_at nodes p) ≡ after k (words_at nodes start)

module _ (nodes : List Node) where
  pub walked-some : (k m p start : ℕ) → 0 < m → Walked nodes k m p start → 1 ≤ len (words_at nodes p)
  walked-some k m p start h g = omega (arith, g.more)

  pub walked-in : (k m p start : ℕ) → 0 < m → Walked nodes k m p start → p < length nodes
  walked-in k m p start h g = words-in nodes p m h g.more

  pub walked_on : (k m m' p p' start : ℕ) → 0 < m → m' ≡ m - 1 → Walked nodes k m p start → Next nodes p p' → Walked nodes k m' p' start
  walked_on k m m' p p' start h e g n =
      let l = ap len n.rest ∙ len-tl (words_at nodes p) in
      rw e (record {
        from = omega (arith, g.from, n.later);
        within = n.within;
        more = omega (arith, g.more, l);
        rest = ap (after (m - 1)) n.rest ∙ after-step m (words_at nodes p) h (omega (arith, g.more)) ∙ g.rest;
      })

  pub walked_node : (k m p start : ℕ) (d : Node) → Whole nodes → 0 < m → Walked nodes k m p start → Walked nodes k (m - 1 + places_of (get_or nodes p d)) (p + 1) start
  walked_node k m p start d w h g =
      let o = on nodes p m d w h g.more in
      record {
        from = omega (arith, g.from);
        within = omega (arith, walked-in k m p start h g);
        more = o.enough;
        rest = o.same ∙ g.rest;
      }

  module _ (i : ℕ) (d : Node) (inside : i < length nodes) where
    pub walked-first : (k m : ℕ) → Whole nodes → k ≡ places_of (get_or nodes i d) → m ≡ k → Walked nodes k m (i + 1) (i + 1)
    walked-first k m w e f =
        let o = on nodes i 1 d w (omega arith) (len-at nodes i inside) in
        rw f (record { from = omega arith; within = omega arith; more = omega (arith, o.enough); rest = refl })

    pub walked-last : (k m p : ℕ) → k ≡ places_of (get_or nodes i d) → m ≡ 0 → Walked nodes k m p (i + 1) → Next nodes i p
    walked-last k m p e f g =
        let r : after 0 (words_at nodes p) ≡ after k (words_at nodes (i + 1)) = rw f at g.rest in
        record {
          later = omega (arith, g.from);
          within = g.within;
          rest = r ∙ ap (λ (n : ℕ). after n (words_at nodes (i + 1))) e ∙ sym (tl-places (get_or nodes i d) (drop (i + 1) nodes)) ∙ ap tl (sym (at_words nodes i d inside));
        }
