-- Whether a literal can be dropped, by what the clause was last turned into.
use Rattle.std.proofs.Common.{◌≡◌, ◌≢◌, ℕ, ◌+◌, ◌-◌, ◌<◌, List, length, drop, get_or, remove, All, Contains, sym, ap, ◌∙◌, subst, inl, inr, arith}
use Rattle.std.proofs.lemmas.Bool.{cases_lt}
use Rattle.std.proofs.lemmas.List.{length-drop, get_or-drop, get_or_default}
use Rattle.std.proofs.lemmas.List.Elements.{All-contains, Contains-append_left, Contains-append_right}
use Rattle.term.specs.Words.{Word, var, sub}
use Rattle.clauses.specs.Clauses.{Covers}
use Rattle.clauses.proofs.Coverings.{covers-part, covers-through, removed-covers}
use Rattle.clauses.proofs.Parts.{All-from}
use Rattle.clauses.proofs.Retractions.{retracts}
use Rattle.subsume.specs.Bits.{bit_at}
use Rattle.subsume.specs.FirstChoices.{Outside, ChoosesOutside}
use Rattle.subsume.specs.Retracting.{Retracts}
use Rattle.reduction.specs.Progress.{Progress, Image}
use Rattle.reduction.proofs.Steps.{hand, rest, removed, room, held-kept, hand-inside, rest-outside, outside-rest}

module _ (C : List Word) (i : ℕ) (kept : List Word) (lt : i < length C) (held gone : List ℕ) (p : Progress C i kept held gone) (mapped : List ℕ) (I : List Word) (image : Image C (hand C i kept lt) mapped gone I) where
  abbrev H : List Word
  H = hand C i kept lt

  abbrev R : List Word
  R = rest C i kept lt

  rest-covers : Covers R H
  rest-covers = subst (λ (D : List Word). Covers D H) (removed C i kept lt) (removed-covers H (length kept))

  -- what is not gone stands in the clause in hand
  in-hand : (w : Word) → Outside gone C w → Contains H w
  in-hand w (j, l, b, e) = elim (cases_lt j i) [
    | inl k ↦ Contains-append_left kept (drop i C) w (subst (Contains kept) e (p.early j w k b))
    | inr k ↦
        (let n = length-drop i C in let z : i + (j - i) ≡ j = omega arith in
        Contains-append_right kept (drop i C) w (j - i, omega arith, get_or-drop i C (j - i) w ∙ ap (λ k. get_or C k w) z ∙ e))
  ]

  image-covers : Covers I H
  image-covers = covers-part I H (All-from (Contains H) I (λ w c. let s = image.places w c in in-hand w (s.0, s.1, s.3, s.4)))

  -- what takes the whole clause outside does so with the image
  pub image-outside : (out : List ℕ) (θ : ℕ → Word) → Retracts held out C θ → All (λ l. Outside out C (sub θ l)) I
  image-outside out θ r = All-from (λ l. Outside out C (sub θ l)) I
      (λ w c. let s = image.places w c in All-contains (λ l. Outside out C (sub θ l)) C w r.into (s.0, s.1, s.4))

  module _ (after : List ℕ) (here : bit_at after i ≡ 1) (others : (j : ℕ) → (j ≢ i) → bit_at after j ≡ bit_at gone j) where
    -- a literal into which none was turned
    pub free-drops : bit_at mapped i ≡ 0 → Covers H R
    free-drops m = covers-through H I R image.covered (covers-part I R (All-from (Contains R) I (λ w c.
        let s = image.places w c in
        let other : s.0 ≢ i = λ e. let z : bit_at mapped i ≡ 1 = ap (bit_at mapped) (sym e) ∙ s.2 in omega arith in
        outside-rest C i kept lt held gone p after here others w (s.0, s.1, others s.0 other ∙ s.3, s.4))))

    pub free-image : bit_at mapped i ≡ 0 → Image C R mapped after I
    free-image m = record {
      covered = covers-through R H I rest-covers image.covered;
      places = λ w c.
          let s = image.places w c in
          let other : s.0 ≢ i = λ e. let z : bit_at mapped i ≡ 1 = ap (bit_at mapped) (sym e) ∙ s.2 in omega arith in
          (s.0, s.1, s.2, others s.0 other ∙ s.3, s.4);
    }

    -- the whole clause is retracted where a literal is needless
    retracted : Covers H R → (θ : ℕ → Word) × Retracts held after C θ
    retracted c =
        let d : Covers H (remove H (length kept)) = subst (Covers H) (sym (removed C i kept lt)) c in
        let part = All-from (Contains C) H (λ w h. hand-inside C i kept lt held gone p w h) in
        let r = retracts (length kept) C H (room C i kept lt) p.needed part (covers-through C H (remove H (length kept)) p.covered d) in (
          r.0,
          record {
            into = All-from (λ l. Outside after C (sub r.0 l)) C
                (λ l h. rest-outside C i kept lt held gone p after here others (sub r.0 l) (subst (λ (D : List Word). Contains D (sub r.0 l)) (removed C i kept lt) (All-contains (λ m. Contains (remove H (length kept)) (sub r.0 m)) C l r.1 h)));
            once = r.2;
            stays = λ j l b. let k = held-kept C i kept lt held gone p j b in ap (sub r.0) (sym k.2) ∙ r.3 k.0 k.1 ∙ k.2;
          },
        )

    -- a literal without which no retraction is left
    pub needed-stays : ((θ : ℕ → Word) → Retracts held after C θ → ⊥) → Covers H R → ⊥
    needed-stays none c = let r = retracted c in none r.0 r.1

    -- a literal without which some choice works
    pub spare-drops : (choice : ℕ → ℕ) → ChoosesOutside after I C choice → Covers H R
    spare-drops choice c = covers-through H I R image.covered (
      c.0,
      λ k e h.
          let d = c.1 k h in
          let u : sub c.0 (get_or I k e) ≡ get_or C (choice k) (var 0) = ap (sub c.0) (get_or_default I k e (var 0) h) ∙ sym d.2 in
          outside-rest C i kept lt held gone p after here others (sub c.0 (get_or I k e))
          (choice k, d.0, d.1, get_or_default C (choice k) (sub c.0 (get_or I k e)) (var 0) d.0 ∙ sym u),
    )

    -- and what that choice turned the literals into
    pub spare-image : (choice : ℕ → ℕ) → ChoosesOutside after I C choice → (next : List ℕ) (J : List Word)
        → ((k : ℕ) → k < length I → Contains J (get_or C (choice k) (var 0)))
        → ((w : Word) → Contains J w → (k : ℕ) × (k < length I) × (bit_at next (choice k) ≡ 1) × (get_or C (choice k) w ≡ w))
        → Image C R next after J
    spare-image choice c next J all only = record {
      covered = covers-through R H J rest-covers (covers-through H I J image.covered (
        c.0,
        λ k e h.
            let d = c.1 k h in
            let u : sub c.0 (get_or I k e) ≡ get_or C (choice k) (var 0) = ap (sub c.0) (get_or_default I k e (var 0) h) ∙ sym d.2 in
            subst (Contains J) (sym u) (all k h),
      ));
      places = λ w j. let s = only w j in let d = c.1 s.0 s.1 in (choice s.0, d.0, s.2, d.1, s.3);
    }
