-- Targets that are gone, and what is left without them.
use Rattle.std.proofs.Common.{◌≡◌, ℕ, zero, suc, ◌+◌, ◌-◌, ◌*◌, ◌<◌, ◌≤◌, min, List, length, get_or, set, Some, None, Option, All, IfSome, MatchOption, ◌⊎◌, inl, inr, sym, refl, ap, ap₂, ◌∙◌, subst, ⊎_elim, arith}
use Rattle.std.specs.Int.{bit_at as bit}
use Rattle.std.proofs.lemmas.Bool.{cases_eq, cases_lt}
use Rattle.std.proofs.lemmas.List.{get_or-map, get_or-set_same, length-map, length-set}
use Rattle.clauses.specs.Clauses.{literals_at}
use Rattle.term.specs.Coding.{word_at}
use Rattle.term.specs.Words.{Word, var, sub}
use Rattle.term.specs.declared.node.Node.{Node}
use Rattle.subsume.specs.declared.bits.BitSet.{BitSet}
use Rattle.subsume.specs.declared.front.Front.{Front}
use Rattle.subsume.specs.declared.slot.Slot.{Slot}
use Rattle.subsume.specs.Bits.{bit_at, Within}
use Rattle.subsume.specs.Choices.{left, row, pick, picked, Fewer, Narrowed, Removed, Pruned, Picked, Made, Clear, Avoids, Holding}
use Rattle.subsume.specs.Meeting.{place_of}
use Rattle.subsume.specs.Solving.{TurnsAt, Works, Linked, Hopeful, SparedOutside}
use Rattle.subsume.specs.FirstChoices.{Outside, ChoosesOutside}
use Rattle.subsume.specs.Retracting.{Stays, Apart}
use Rattle.subsume.proofs.Picking.{picked-fewer}
use Rattle.subsume.proofs.Pruning.{row-set_same, row-set_other}
use Rattle.subsume.proofs.Searching.{fits-works}
use Rattle.subsume.proofs.Sets.{bit-below, bit-of_word, none-past, other-word}

-- what is not in a set is in none within it
pub not-within : (one other : List ℕ) → Within one other → (k : ℕ) → bit_at other k ≡ 0 → bit_at one k ≡ 0
not-within one other h k e = ⊎_elim (λ (b : bit_at one k ≡ 1). absurd (omega (arith, e, h k b))) (λ b. omega (arith, b, bit-below one k)) (cases_eq (bit_at one k) 1)

-- of the first w words, the bits in the set were struck out
pub record Removing (gone before words : List ℕ) (w : ℕ) : Type 0 where
  pub done : (l : ℕ) → l < 64 * w → bit_at words l ≡ min (bit_at before l) (1 - bit_at gone l)
  pub rest : (l : ℕ) → 64 * w ≤ l → bit_at words l ≡ bit_at before l

pub removing-none : (gone words : List ℕ) → Removing gone words words 0
removing-none gone words = record { done = λ l h. absurd (omega arith); rest = λ l h. refl }

module _ (gone before words : List ℕ) (w v : ℕ) (inside : w < length words)
    (struck : (m : ℕ) → m < 64 → bit v m ≡ min (bit (get_or words w 0) m) (1 - bit (get_or gone w 0) m)) (r : Removing gone before words w) where
  at-word : (l m : ℕ) → m < 64 → l ≡ 64 * w + m → bit_at (set words w v) l ≡ min (bit_at before l) (1 - bit_at gone l)
  at-word l m small e =
      let place : (ws : List ℕ) → bit_at ws l ≡ bit (get_or ws w 0) m = λ ws. ap (bit_at ws) e ∙ bit-of_word ws w m small in
      place (set words w v) ∙ ap (λ (x : ℕ). bit x m) (get_or-set_same words w v 0 inside) ∙ struck m small
      ∙ ap₂ (λ x y. min x (1 - y)) (sym (place words) ∙ r.rest l (omega arith)) (sym (place gone))

  pub removing-more : Removing gone before (set words w v) (w + 1)
  removing-more = record {
    done = λ l h. ⊎_elim
        (λ (b : l < 64 * w). other-word words w v l (omega arith) ∙ r.done l b)
        (λ b. at-word l (l - 64 * w) (omega arith) (omega arith))
        (cases_lt l (64 * w));
    rest = λ l h. other-word words w v l (omega arith) ∙ r.rest l (omega arith);
  }

pub removed-all : (gone before after : List ℕ) (w : ℕ) → length after ≤ w → Removing gone before after w → Removed gone before after
removed-all gone before after w all r = record {
  kept = λ l b g. ⊎_elim (λ (h : l < 64 * w). omega (arith, r.done l h, b, g)) (λ h. r.rest l h ∙ b) (cases_lt l (64 * w));
  fewer = λ l b. ⊎_elim
      (λ (h : l < 64 * w).
      let small = bit-below before l in
      (omega (arith, r.done l h, b, small), omega (arith, r.done l h, b, small)))
      (λ h. absurd (omega (arith, b, none-past after l (omega (arith, h, all)))))
      (cases_lt l (64 * w));
}

-- the rows of the first i literals are without the targets that are gone, and the others are as they were
pub record Cut (gone : List ℕ) (before after : List (BitSet 4)) (i : ℕ) : Type 0 where
  pub done : (k : ℕ) → k < i → Removed gone (row before k) (row after k)
  pub rest : (k : ℕ) → i ≤ k → row after k ≡ row before k
  pub long : length after ≡ length before

pub cut-none : (gone : List ℕ) (sets : List (BitSet 4)) → Cut gone sets sets 0
cut-none gone sets = record { done = λ k h. absurd (omega arith); rest = λ k h. refl; long = refl }

module _ (gone : List ℕ) (before sets : List (BitSet 4)) (i : ℕ) where
  pub cut-more : (r : BitSet 4) → i < length sets → Cut gone before sets i → Removed gone (row sets i) r.words → Cut gone before (set sets i r) (i + 1)
  cut-more r inside c m =
      let here : Removed gone (row before i) (row (set sets i r) i) = rw (row-set_same sets i r inside, ← c.rest i (omega arith)) m in
      record {
        done = λ k h. ⊎_elim (λ (e : k ≡ i). subst (λ (x : ℕ). Removed gone (row before x) (row (set sets i r) x)) (sym e) here)
            (λ e. subst (λ (ws : List ℕ). Removed gone (row before k) ws) (sym (row-set_other sets i k r e)) (c.done k (omega arith))) (cases_eq k i);
        rest = λ k h. row-set_other sets i k r (λ e. omega arith) ∙ c.rest k (omega arith);
        long = length-set sets i r ∙ c.long;
      }

module _ (m n : ℕ) (begins : ℕ → ℕ) (start j : ℕ) where
  pub holding-none : (sets : List (BitSet 4)) → Holding m n begins start j sets sets
  holding-none sets = record { keeps = λ f a h. a; fewer = λ k l h g e. e; long = refl }

  pub holding-more : (before sets : List (BitSet 4)) (i : ℕ) (r : BitSet 4) → i < m → i < length sets → begins i ≡ start → Holding m n begins start j before sets
      → Narrowed (row sets i) r.words j → Holding m n begins start j before (set sets i r)
  holding-more before sets i r own inside here h w =
      let same = row-set_same sets i r inside in
      record {
        keeps = λ f a stays k lt.
            let b = h.keeps f a stays k lt in (
              b.0,
              ⊎_elim
                  (λ (e : k ≡ i).
                  let at : f k ≡ j = ap f e ∙ stays i own here in
                  ap (λ (x : ℕ). left (set sets i r) x (f k)) e ∙ ap (left (set sets i r) i) at ∙ ap (λ ws. bit_at ws j) same ∙ w.here
                  ∙ sym (ap (left sets i) at) ∙ sym (ap (λ (x : ℕ). left sets x (f k)) e) ∙ b.1)
                  (λ e. ap (λ (ws : List ℕ). bit_at ws (f k)) (row-set_other sets i k r e) ∙ b.1)
                  (cases_eq k i),
            );
        fewer = λ k l lt g e. h.fewer k l lt g (⊎_elim
            (λ (s : k ≡ i).
            let there : bit_at r.words l ≡ 1 = sym (ap (λ ws. bit_at ws l) same) ∙ sym (ap (λ (x : ℕ). left (set sets i r) x l) s) ∙ e in
            let at : l ≡ j = w.only l there in
            ap (λ (x : ℕ). left sets x l) s ∙ ap (left sets i) at ∙ sym w.here ∙ sym (ap (bit_at r.words) at) ∙ there)
            (λ s. ap (λ (ws : List ℕ). bit_at ws l) (sym (row-set_other sets i k r s)) ∙ e)
            (cases_eq k i));
        long = length-set sets i r ∙ h.long;
      }

-- pruning loses none of the choices that are left
pub pruned-spared : (N : List Node) (S : List ℕ) (M : List Node) (T : List ℕ) {C : ℕ} (fronts : List (Front C)) (slots : List Slot) (before after : List (BitSet 4))
    → Linked N S M T fronts slots → Pruned fronts slots (length S) (length T) before after → (kept gone : List ℕ) → SparedOutside N S M T kept gone before → SparedOutside N S M T kept gone after
pruned-spared N S M T fronts slots before after linked p kept gone spared f within w holds =
    p.keeps f (λ x. place_of M (w.0 x)) (fits-works N S M T fronts slots f linked (λ k lt. (within k lt).0) w) (spared f within w holds)

-- and what is pruned after that
module _ (N : List Node) (S : List ℕ) (M : List Node) (T : List ℕ) (j : ℕ) (before mid after : List (BitSet 4)) (h : Holding (length S) (length T) (λ (k : ℕ). get_or S k 0) (get_or T j 0) j before mid) where
  pub held-picked : (picks : List (Option ℕ)) → Fewer mid after (length S) (length T) → Picked before (length S) (length T) picks → Picked after (length S) (length T) picks
  held-picked picks f p = picked-fewer (length S) (length T) before after picks p (λ k l a b e. h.fewer k l a b (f k l a b e))

  pub held-spared : {C : ℕ} (fronts : List (Front C)) (slots : List Slot) → Linked N S M T fronts slots → Pruned fronts slots (length S) (length T) mid after → j < length T
      → (kept gone : List ℕ) → bit_at kept j ≡ 1 → SparedOutside N S M T kept gone before → SparedOutside N S M T kept gone after
  held-spared fronts slots linked p inside kept gone own spared =
      pruned-spared N S M T fronts slots mid after linked p kept gone (λ f within w holds. h.keeps f (spared f within w holds) (λ k lt e. holds k j lt inside own e))

-- what is left then
module _ (N : List Node) (S : List ℕ) (M : List Node) (T : List ℕ) (gone : List ℕ) (before mid after : List (BitSet 4)) (i : ℕ) (all : length S ≤ i) (c : Cut gone before mid i) where
  fewer-cut : (k j : ℕ) → k < length S → j < length T → left mid k j ≡ 1 → (left before k j ≡ 1) × (bit_at gone j ≡ 0)
  fewer-cut k j h g e = (c.done k (omega arith)).fewer j e

  pub cut-picked : (picks : List (Option ℕ)) → Fewer mid after (length S) (length T) → Picked before (length S) (length T) picks → Picked after (length S) (length T) picks
  cut-picked picks f p = record { within = p.within; alone = λ k h x e j g y. p.alone k h x e j g (fewer-cut k j h g (f k j h g y)).0 }

  pub cut-clear : (picks : List (Option ℕ)) → Fewer mid after (length S) (length T) → ((k : ℕ) → k < length S → pick picks k ≡ None) → Clear gone after (length S) (length T) picks
  cut-clear picks f n = record {
    lefts = λ k h j g e. (fewer-cut k j h g (f k j h g e)).1;
    chosen = λ k h j e. let z : None ≡ Some j = sym (n k h) ∙ e in cc;
  }

  pub cut-spared : {C : ℕ} (fronts : List (Front C)) (slots : List Slot) → Linked N S M T fronts slots → Pruned fronts slots (length S) (length T) mid after
      → (kept was : List ℕ) → Within was gone → SparedOutside N S M T kept was before → SparedOutside N S M T kept gone after
  cut-spared fronts slots linked p kept was wider spared f inside w holds =
      let early : (l : ℕ) → l < length S → (f l < length T) × (bit_at was (f l) ≡ 0) = λ l g. ((inside l g).0, not-within was gone wider (f l) (inside l g).1) in
      p.keeps f (λ x. place_of M (w.0 x)) (fits-works N S M T fronts slots f linked (λ k h. (inside k h).0) w)
      (λ k h. let a = spared f early w holds k h in (a.0, (c.done k (omega arith)).kept (f k) a.1 (inside k h).1))

-- a choice of targets that are not gone, by the literals
module _ (N : List Node) (S : List ℕ) (M : List Node) (T : List ℕ) (gone : List ℕ) where
  abbrev one : List Word
  one = literals_at N S

  abbrev other : List Word
  other = literals_at M T

  found-outside : (picks : List (Option ℕ)) → Made picks (length S) (length T) → Works N S M T (picked picks) → Avoids gone (length S) picks → ChoosesOutside gone one other (picked picks)
  found-outside picks made w out = (
    w.0,
    λ i h.
        let k : i < length S = omega (arith, length-map S (word_at N), h) in
        let m = (made i k).2 in (
          omega (arith, length-map T (word_at M), m),
          out i k,
          get_or-map (word_at M) T (picked picks i) 0 (var 0) m ∙ sym (w.1 i k) ∙ ap (sub w.0) (sym (get_or-map (word_at N) S i 0 (var 0) k)),
        ),
  )

  -- the place outside where each literal stands once it is turned
  target : (θ : ℕ → Word) → All (λ l. Outside gone other (sub θ l)) one → (i : ℕ) → i < length S → (j : ℕ) × (j < length T) × (bit_at gone j ≡ 0) × TurnsAt N S M T θ i j
  target θ c i h =
      let l : Word = get_or one i (var 0) in
      let same : l ≡ word_at N (get_or S i 0) = get_or-map (word_at N) S i 0 (var 0) h in
      let t : Outside gone other (sub θ l) = c i (var 0) (omega (arith, length-map S (word_at N), h)) in
      let inside : t.0 < length T = omega (arith, length-map T (word_at M), t.1) in
      (t.0, inside, t.2, ap (sub θ) (sym same) ∙ sym t.3 ∙ get_or-map (word_at M) T t.0 0 (sub θ l) inside)

  module _ (same : N ≡ M) (kept : List ℕ) (apart : Apart kept gone other) (θ : ℕ → Word) (c : All (λ l. Outside gone other (sub θ l)) one) (stays : Stays kept other θ) where
    -- a literal is held at a place
    abbrev HeldAt : (i j : ℕ) → Type 0
    HeldAt i j = (j < length T) × (bit_at kept j ≡ 1) × (get_or S i 0 ≡ get_or T j 0)

    word-there : (j : ℕ) → j < length T → get_or other j (var 0) ≡ word_at M (get_or T j 0)
    word-there j h = get_or-map (word_at M) T j 0 (var 0) h

    held-turns : (i j : ℕ) → HeldAt i j → (bit_at gone j ≡ 0) × TurnsAt N S M T θ i j
    held-turns i j h =
        let long : j < length other = omega (arith, length-map T (word_at M), h.0) in
        let w : word_at N (get_or S i 0) ≡ word_at M (get_or T j 0) = ap₂ word_at same h.2 in
        (apart.here j long h.1, ap (sub θ) (w ∙ sym (word-there j h.0)) ∙ stays j long h.1 ∙ word-there j h.0)

    held-once : (i j k : ℕ) → HeldAt i j → HeldAt i k → j ≡ k
    held-once i j k a b =
        apart.once j k (omega (arith, length-map T (word_at M), a.0)) (omega (arith, length-map T (word_at M), b.0)) a.1 b.1
        (word-there j a.0 ∙ ap (word_at M) (sym a.2 ∙ b.2) ∙ sym (word-there k b.0))

    -- one of the first n places where it is held, if there is one
    held : (i n : ℕ) → ((j : ℕ) × HeldAt i j) ⊎ ((j : ℕ) → j < n → HeldAt i j → ⊥)
    held i zero = inr (λ j lt. absurd (omega arith))
    held i (suc n) = elim (held i n) [
      | inl r ↦ inl r
      | inr none ↦
          elim (cases_lt n (length T)) [
            | inr past ↦ inr (λ j lt h. none j (omega (arith, h.0, past)) h)
            | inl inside ↦
                elim (cases_eq (bit_at kept n) 1) [
                  | inr q ↦ inr (λ j lt h. elim (cases_eq j n) [ inl e ↦ q (sym (ap (bit_at kept) e) ∙ h.1) | inr e ↦ none j (omega arith) h ])
                  | inl own ↦
                      elim (cases_eq (get_or S i 0) (get_or T n 0)) [
                        | inl e ↦ inl (n, (inside, own, e))
                        | inr q ↦ inr (λ j lt h. elim (cases_eq j n) [ inl e ↦ q (h.2 ∙ ap (λ k. get_or T k 0) e) | inr e ↦ none j (omega arith) h ])
                      ]
                ]
          ]
    ]

    -- for each literal the place where it is held, or else one outside where it stands once it is turned
    abbrev Choice : (i j : ℕ) → Type 0
    Choice i j = (i < length S → (j < length T) × (bit_at gone j ≡ 0) × TurnsAt N S M T θ i j) × ((k : ℕ) → HeldAt i k → j ≡ k)

    choice : (i : ℕ) → (j : ℕ) × Choice i j
    choice i = elim (held i (length T)) [
      | inl r ↦ (r.0, (λ h. let t = held-turns i r.0 r.1 in (r.1.0, t.0, t.1), λ k. held-once i r.0 k r.1))
      | inr none ↦
          elim (cases_lt i (length S)) [
            | inl h ↦ (let t = target θ c i h in (t.0, (λ _. (t.1, t.2, t.3), λ k h. absurd (none k h.0 h))))
            | inr n ↦ (0, (λ h. absurd (omega (arith, n, h)), λ k h. absurd (none k h.0 h)))
          ]
    ]

    none-outside : (sets : List (BitSet 4)) → SparedOutside N S M T kept gone sets → (Hopeful N S M T sets → ⊥) → ⊥
    none-outside sets spared none =
        let f = λ (i : ℕ). (choice i).0 in
        let w : Works N S M T f = (θ, λ i h. ((choice i).1.0 h).2) in
        none (f, spared f (λ i h. (((choice i).1.0 h).0, ((choice i).1.0 h).1)) w (λ i j h g own e. (choice i).1.1 j (g, own, e)), w)

  pub chosen-outside : (sets : List (BitSet 4)) (picks : List (Option ℕ)) (o : Option (List (Option ℕ))) → N ≡ M
      → (kept : List ℕ) → SparedOutside N S M T kept gone sets → Apart kept gone other → Clear gone sets (length S) (length T) picks
      → IfSome o (λ made. Made made (length S) (length T) × Works N S M T (picked made))
      → ((g : List ℕ) → Clear g sets (length S) (length T) picks → IfSome o (λ made. Avoids g (length S) made)) → (o ≡ None → Hopeful N S M T sets → ⊥)
      → MatchOption o ((θ : ℕ → Word) → All (λ l. Outside gone other (sub θ l)) one → Stays kept other θ → ⊥) (λ made. ChoosesOutside gone one other (picked made))
  chosen-outside sets picks (Some made) same kept spared apart clear h out none = found-outside made h.0 h.1 (out gone clear)
  chosen-outside sets picks None same kept spared apart clear h out none = λ θ c stays. none-outside same kept apart θ c stays sets spared (none refl)
