-- What the search tries, and what it leaves out.
use Rattle.std.proofs.Common.{◌≡◌, ℕ, ◌+◌, ◌*◌, ◌<◌, ◌≤◌, Bool, true, List, length, Some, None, Option, IfSome, is_some, inl, inr, refl, sym, ap, subst, ◌∙◌, ⊎_elim, arith}
use Rattle.std.proofs.lemmas.Bool.{cases_eq, false≢true}
use Rattle.term.specs.declared.node.Node.{Node}
use Rattle.subsume.specs.declared.bits.BitSet.{BitSet}
use Rattle.subsume.specs.declared.front.Front.{Front}
use Rattle.subsume.specs.declared.slot.Slot.{Slot}
use Rattle.subsume.specs.Bits.{bit_at}
use Rattle.subsume.specs.Choices.{left, slot_at, picked, Among, Fits, Pruned, HasTurn, Taken, Made}
use Rattle.subsume.specs.Meeting.{place_of}
use Rattle.subsume.specs.Solving.{Works, Linked, Open, Solved, Hopeful, Spared}

module _ (N : List Node) (S : List ℕ) (M : List Node) (T : List ℕ) where
  -- no choice works whose target for literal i has had its turn
  pub Out : List (BitSet 4) → (first : List ℕ) → (i n k : ℕ) → Type 0
  Out sets first i n k = (h : Hopeful N S M T sets) (t : ℕ) → t < k → HasTurn first n (h.0 i) t → ⊥

  pub out_none : (sets : List (BitSet 4)) (first : List ℕ) (i n : ℕ) → Out sets first i n 0
  unfolding Out
  out_none sets first i n h t l = omega arith

  pub out-more : (sets : List (BitSet 4)) (first : List ℕ) (i n k : ℕ) → Out sets first i n k → ((h : Hopeful N S M T sets) → HasTurn first n (h.0 i) k → ⊥) → Out sets first i n (k + 1)
  unfolding Out
  out-more sets first i n k o now h t l turn =
      ⊎_elim (λ (e : t ≡ k). now h (subst (HasTurn first n (h.0 i)) e turn)) (λ e. o h t (omega (arith, e)) turn) (cases_eq t k)

  -- one target has a turn
  pub one-turn : (first : List ℕ) (n j l k : ℕ) → j < n → l < n → HasTurn first n j k → HasTurn first n l k → j ≡ l
  one-turn first n j l k a b (inl x) (inl y) = omega (arith, x.0, y.0)
  one-turn first n j l k a b (inl x) (inr y) = absurd (omega (arith, x.0, y.0, a))
  one-turn first n j l k a b (inr x) (inl y) = absurd (omega (arith, x.0, y.0, b))
  one-turn first n j l k a b (inr x) (inr y) = omega (arith, x.0, y.0)

  -- a choice that works agrees with the table
  pub fits-works : {C : ℕ} (fronts : List (Front C)) (slots : List Slot) (f : ℕ → ℕ) → Linked N S M T fronts slots → ((i : ℕ) → i < length S → f i < length T)
      → (w : Works N S M T f) → Fits fronts slots f (λ x. place_of M (w.0 x))
  fits-works fronts slots f linked inside w s h =
      let l = linked s h in
      let k = (slot_at slots s).literal in
      l.1 (f k) (inside k l.0) w.0 (w.1 k l.0)

  -- what is left to begin with
  pub spared : {C : ℕ} (fronts : List (Front C)) (slots : List Slot) (before after : List (BitSet 4)) → Linked N S M T fronts slots → Open N S M T before (length S)
      → Pruned fronts slots (length S) (length T) before after → Spared N S M T after
  spared fronts slots before after linked wide pruned f inside w =
      pruned.keeps f (λ x. place_of M (w.0 x)) (fits-works fronts slots f linked inside w) (λ i h. (inside i h, wide i h (f i) (inside i h) w.0 (w.1 i h)))

  -- the literal i takes the target j, and what is struck out by that is not wanted
  pub tried : {C : ℕ} (fronts : List (Front C)) (slots : List Slot) (sets last : List (BitSet 4)) (i j : ℕ) → Linked N S M T fronts slots → Taken fronts slots (length S) (length T) sets i j last
      → (h : Hopeful N S M T sets) → h.0 i ≡ j → Hopeful N S M T last
  tried fronts slots sets last i j linked t h e =
      let next = t.mid in
      let f = h.0 in
      let θ = h.2.0 in
      let narrow : Among next (length S) (length T) f = λ k inside.
      let a = h.1 k inside in (
        a.0,
        ⊎_elim
            (λ (s : k ≡ i).
            let same : f k ≡ j = ap f s ∙ e in
            ap (λ (x : ℕ). left next x (f k)) s ∙ ap (left next i) same ∙ t.narrowed.here ∙ sym (ap (left sets i) same) ∙ sym (ap (λ (x : ℕ). left sets x (f k)) s) ∙ a.1)
            (λ s. ap (λ (ws : List ℕ). bit_at ws (f k)) (t.others k s) ∙ a.1)
            (cases_eq k i),
      ) in
      let fits = fits-works fronts slots f linked (λ k inside. (h.1 k inside).0) h.2 in
      (f, t.pruned.keeps f (λ x. place_of M (θ x)) fits narrow, h.2)

  -- a choice that was found
  pub found : (o : Option (List (Option ℕ))) (r : Bool) → IfSome o (λ picks. Made picks (length S) (length T) × Works N S M T (picked picks)) → r ≡ is_some o → r ≡ true → Solved N S M T
  found None r h e t = absurd (false≢true (sym e ∙ t))
  found (Some picks) r h e t = (picked picks, (λ i inside. (h.0 i inside).2), h.1)

  pub out-all : (sets : List (BitSet 4)) (first : List ℕ) (i n k : ℕ) → i < length S → length T ≡ n → 2 * n ≤ k → Out sets first i n k → Hopeful N S M T sets → ⊥
  unfolding Out
  out-all sets first i n k inside all past o h =
      let small = (h.1 i inside).0 in
      ⊎_elim
      (λ (b : bit_at first (h.0 i) ≡ 1). o h (h.0 i) (omega (arith, small, all, past)) (inl (refl, b)))
      (λ b. o h (h.0 i + n) (omega (arith, small, all, past)) (inr (refl, b)))
      (cases_eq (bit_at first (h.0 i)) 1)

  -- a target that is not left
  pub gone : (sets : List (BitSet 4)) (i j : ℕ) → i < length S → (left sets i j ≡ 1 → ⊥) → (h : Hopeful N S M T sets) → h.0 i ≡ j → ⊥
  gone sets i j inside n h e = n (ap (left sets i) (sym e) ∙ (h.1 i inside).1)
