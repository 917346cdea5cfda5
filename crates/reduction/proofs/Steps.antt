-- The steps of tidying: a literal is dropped, or it is kept.
use Rattle.std.proofs.Common.{◌≡◌, ◌≢◌, ℕ, suc, ◌+◌, ◌-◌, ◌<◌, List, [], ◌∷◌, ◌++◌, length, drop, get_or, remove, Contains, inl, inr, sym, refl, ap, ap₂, ◌∙◌, subst, append_assoc, arith, length-append}
use Rattle.std.proofs.lemmas.Bool.{cases_lt, cases_eq}
use Rattle.std.proofs.Math.Seq.{get_or-append_seam}
use Rattle.std.proofs.lemmas.List.{get_or_append_left, take_at, drop_at, drop_more, length-drop, length_push, get_or-drop, get_or_default}
use Rattle.std.proofs.lemmas.List.Elements.{Contains-append_left, Contains-append_right, Contains-append_cases, Contains-push, Contains-push_cases}
use Rattle.term.specs.Words.{Word, var}
use Rattle.clauses.specs.Clauses.{Covers}
use Rattle.clauses.specs.Reduction.{Needed, drops, keeps}
use Rattle.clauses.proofs.Coverings.{covers-through}
use Rattle.clauses.proofs.Reductions.{needed-removed, needed-kept, after-drop, after-keep}
use Rattle.clauses.proofs.Retractions.{needed-once}
use Rattle.subsume.specs.Bits.{bit_at}
use Rattle.subsume.specs.FirstChoices.{Outside}
use Rattle.subsume.specs.Retracting.{Apart}
use Rattle.reduction.specs.Progress.{Progress}

module _ (C : List Word) (i : ℕ) (kept : List Word) (lt : i < length C) where
  -- the clause in hand, and what is left of it without the literal in hand
  abbrev pub hand : List Word
  hand = kept ++ drop i C

  abbrev pub rest : List Word
  rest = kept ++ drop (i + 1) C

  abbrev pub literal : Word
  literal = get_or C i (var 0)

  hand-is : hand ≡ kept ++ literal ∷ drop (i + 1) C
  hand-is = ap (λ (l : List Word). kept ++ l) (drop_more C i (var 0) lt)

  pushed : (kept ++ literal ∷ []) ++ drop (i + 1) C ≡ kept ++ literal ∷ drop (i + 1) C
  pushed = append_assoc kept (literal ∷ []) (drop (i + 1) C)

  pub removed : remove hand (length kept) ≡ rest
  removed =
      ap (λ (l : List Word). remove l (length kept)) hand-is
      ∙ ap₂ (λ (l m : List Word). l ++ m) (take_at kept (literal ∷ drop (i + 1) C) (length kept) refl)
      (ap (drop (suc (length kept))) (sym pushed)
      ∙ drop_at (kept ++ literal ∷ []) (drop (i + 1) C) (suc (length kept)) (omega (arith, length_push kept literal)))

  pub room : length kept < length hand
  room = omega (arith, length-append kept (drop i C), length-drop i C)

  pub hand-pushed : (kept ++ literal ∷ []) ++ drop (i + 1) C ≡ hand
  hand-pushed = pushed ∙ sym hand-is

  module _ (held gone : List ℕ) (p : Progress C i kept held gone) where
    -- what is held stands among the kept
    pub held-kept : (j : ℕ) → bit_at held j ≡ 1 → (q : ℕ) × (q < length kept) × (get_or hand q (var 0) ≡ get_or C j (var 0))
    held-kept j b =
        let h = p.before j b in
        let c = p.early j (var 0) h (p.apart.here j (omega (arith, h, lt)) b) in
        (c.0, c.1, get_or_append_left kept (drop i C) (var 0) c.0 c.1 ∙ get_or_default kept c.0 (var 0) (get_or C j (var 0)) c.1 ∙ c.2)

    -- what is in hand are literals of the clause
    pub hand-inside : (w : Word) → Contains hand w → Contains C w
    hand-inside w c = elim (Contains-append_cases kept (drop i C) w c) [
      | inl k ↦ (let s = p.stays w k in (s.0, omega (arith, s.1, lt), s.3))
      | inr k ↦ (let n = length-drop i C in (i + k.0, omega (arith, n, k.1), sym (get_or-drop i C k.0 w) ∙ k.2))
    ]

    at-hand : get_or hand (length kept) (var 0) ≡ literal
    at-hand = ap (λ (l : List Word). get_or l (length kept) (var 0)) hand-is ∙ get_or-append_seam kept literal (drop (i + 1) C) (var 0)

    pub keep-step : (held' : List ℕ) → ((j : ℕ) → (j ≢ i) → bit_at held' j ≡ bit_at held j) → (Covers hand rest → ⊥)
        → Progress C (i + 1) (kept ++ literal ∷ []) held' gone
    keep-step held' others n =
        let no : Covers hand (remove hand (length kept)) → ⊥ = λ c. n (subst (Covers hand) removed c) in
        let long : length (kept ++ literal ∷ []) ≡ length kept + 1 = length_push kept literal in
        let firm : Needed (length kept + 1) hand = needed-kept (length kept) hand no p.needed in
        let other : (j : ℕ) → bit_at held' j ≡ 1 → get_or C j (var 0) ≡ literal → j ≡ i =
        λ j b e. elim (cases_eq j i) [
          | inl s ↦ s
          | inr s ↦
              (let k = held-kept j (sym (others j s) ∙ b) in
              let z = needed-once (length kept + 1) hand firm k.0 (length kept) (omega (arith, k.1)) (omega (arith, k.1, room)) room (k.2 ∙ e ∙ sym at-hand) in
              absurd (omega (arith, z, k.1)))
        ] in
        record {
          within = omega arith;
          forth = λ R t. p.forth R (keeps room no (rw (long, hand-pushed) at t));
          back = λ R t. rw (long, hand-pushed) (after-keep (p.back R t) room no);
          early = λ j d l b. elim (cases_lt j i) [
            | inl k ↦ Contains-append_left kept (literal ∷ []) (get_or C j d) (p.early j d k b)
            | inr k ↦ (let e : j ≡ i = omega arith in subst (λ w. Contains (kept ++ literal ∷ []) w) (read d j e) (Contains-push kept literal))
          ];
          stays = λ w c. elim (Contains-push_cases kept literal w c) [
            | inl k ↦ (let s = p.stays w k in (s.0, omega (arith, s.1), s.2, s.3))
            | inr e ↦ (i, omega arith, p.late i (omega arith), sym (read w i refl) ∙ e)
          ];
          late = λ j l. p.late j (omega arith);
          covered = subst (Covers C) (sym hand-pushed) p.covered;
          needed = rw (long, hand-pushed) firm;
          before = λ j b. elim (cases_eq j i) [
            | inl s ↦ omega arith
            | inr s ↦ (let h = p.before j (sym (others j s) ∙ b) in omega (arith, h))
          ];
          apart = record {
            here = λ j l b. elim (cases_eq j i) [
              | inl s ↦ p.late j (omega (arith, s))
              | inr s ↦ p.apart.here j l (sym (others j s) ∙ b)
            ];
            once = λ j k l m b d e. elim (cases_eq j i) [
              | inl s ↦ s ∙ sym (other k d (sym e ∙ ap (λ x. get_or C x (var 0)) s))
              | inr s ↦ elim (cases_eq k i) [
                | inl z ↦ other j b (e ∙ ap (λ x. get_or C x (var 0)) z) ∙ sym z
                | inr z ↦ p.apart.once j k l m (sym (others j s) ∙ b) (sym (others k z) ∙ d) e
              ]
            ];
          };
        }
      where
        read : (d : Word) (j : ℕ) → j ≡ i → literal ≡ get_or C j d
        read d j e = get_or_default C i (var 0) d lt ∙ ap (λ k. get_or C k d) (sym e)

    module _ (after : List ℕ) (here : bit_at after i ≡ 1) (others : (j : ℕ) → (j ≢ i) → bit_at after j ≡ bit_at gone j) where
      pub apart-after : Apart held after C
      apart-after = record {
        here = λ j l b. let h = p.before j b in others j (λ q. omega (arith, q, h)) ∙ p.apart.here j l b;
        once = p.apart.once;
      }

      pub drop-step : Covers hand rest → Progress C (i + 1) kept held after
      drop-step c =
          let d : Covers hand (remove hand (length kept)) = subst (Covers hand) (sym removed) c in
          record {
            within = omega arith;
            forth = λ R t. p.forth R (drops room d (rw removed t));
            back = λ R t. rw removed at (after-drop (p.back R t) room d);
            early = λ j e l b. elim (cases_lt j i) [
              | inl k ↦ p.early j e k (sym (others j (λ q. omega arith)) ∙ b)
              | inr k ↦ (let e : j ≡ i = omega arith in let z : bit_at after i ≡ 0 = ap (bit_at after) (sym e) ∙ b in absurd (omega arith))
            ];
            stays = λ w k. let s = p.stays w k in let l = s.1 in (s.0, omega arith, others s.0 (λ q. omega arith) ∙ s.2, s.3);
            late = λ j l. others j (λ q. omega arith) ∙ p.late j (omega arith);
            covered = covers-through C hand rest p.covered c;
            needed = subst (Needed (length kept)) removed (needed-removed (length kept) hand room d p.needed);
            before = λ j b. let h = p.before j b in omega (arith, h);
            apart = apart-after;
          }

      -- what is left without the literal in hand are the literals that are not gone then
      pub rest-outside : (w : Word) → Contains rest w → Outside after C w
      rest-outside w c = elim (Contains-append_cases kept (drop (i + 1) C) w c) [
        | inl k ↦ (let s = p.stays w k in let l = s.1 in (s.0, omega arith, others s.0 (λ q. omega arith) ∙ s.2, s.3))
        | inr k ↦
            (let l = k.1 in let n = length-drop (i + 1) C in
            (i + 1 + k.0, omega arith, others (i + 1 + k.0) (λ q. omega arith) ∙ p.late (i + 1 + k.0) (omega arith), sym (get_or-drop (i + 1) C k.0 w) ∙ k.2))
      ]

      pub outside-rest : (w : Word) → Outside after C w → Contains rest w
      outside-rest w (j, l, b, e) = elim (cases_lt j i) [
        | inl k ↦ Contains-append_left kept (drop (i + 1) C) w (subst (Contains kept) e (p.early j w k (sym (others j (λ q. omega arith)) ∙ b)))
        | inr k ↦ elim (cases_lt i j) [
          | inl m ↦
              (let n = length-drop (i + 1) C in let z : i + 1 + (j - (i + 1)) ≡ j = omega arith in
              Contains-append_right kept (drop (i + 1) C) w
              (j - (i + 1), omega arith, get_or-drop (i + 1) C (j - (i + 1)) w ∙ ap (λ k. get_or C k w) z ∙ e))
          | inr m ↦ (let e : j ≡ i = omega arith in let z : bit_at after i ≡ 0 = ap (bit_at after) (sym e) ∙ b in absurd (omega arith))
        ]
      ]
