-- The turn of a literal, by where it begins.
use Rattle.std.proofs.Common.{◌≡◌, ◌≢◌, ℕ, ◌+◌, ◌<◌, List, [], ◌∷◌, ◌++◌, length, get_or, drop, All, Some, None, Option, MatchOption, sym, ap, ◌∙◌, subst, ⊎_elim, length-append, arith}
use Rattle.std.proofs.lemmas.Bool.{cases_eq}
use Rattle.std.proofs.lemmas.List.{get_or-map, length-map, map-append, length-take, length_push}
use Rattle.term.specs.Coding.{word_at}
use Rattle.term.specs.Words.{Word, var, sub}
use Rattle.term.specs.declared.node.Node.{Node}
use Rattle.clauses.specs.Clauses.{Covers, literals_at}
use Rattle.clauses.proofs.Reductions.{tidies-front}
use Rattle.subsume.specs.Bits.{bit_at, Within}
use Rattle.subsume.specs.Choices.{picked}
use Rattle.subsume.specs.FirstChoices.{Outside, ChoosesOutside}
use Rattle.subsume.specs.Retracting.{Stays, Retracts, Apart}
use Rattle.subsume.specs.Solving.{SparedOutside}
use Rattle.subsume.specs.declared.bits.BitSet.{BitSet}
use Rattle.subsume.proofs.Avoiding.{not-within}
use Rattle.reduction.specs.Progress.{Progress, Image}
use Rattle.reduction.specs.Tidyings.{Taken, TooMany}
use Rattle.reduction.proofs.Steps.{literal, hand-pushed, keep-step, apart-after, drop-step}
use Rattle.reduction.proofs.Images.{free-drops, free-image, needed-stays, image-outside, spare-drops, spare-image}

pub within-more : (one other : List ℕ) (i : ℕ) → bit_at other i ≡ 1 → ((j : ℕ) → (j ≢ i) → bit_at other j ≡ bit_at one j) → Within one other
within-more one other i here others j b = ⊎_elim (λ (e : j ≡ i). ap (bit_at other) e ∙ here) (λ n. others j n ∙ b) (cases_eq j i)

pub within-itself : (one : List ℕ) → Within one one
within-itself one j b = b

-- where more is held or gone, no fewer choices are left
pub still-spared : (N : List Node) (S : List ℕ) (M : List Node) (T : List ℕ) (sets : List (BitSet 4)) (held wider gone further : List ℕ)
    → Within held wider → Within gone further → SparedOutside N S M T held gone sets → SparedOutside N S M T wider further sets
still-spared N S M T sets held wider gone further h g spared f within w holds =
    spared f (λ i k. ((within i k).0, not-within gone further g (f i) (within i k).1)) w (λ i j k l b. holds i j k l (h j b))

module _ (nodes : List Node) (S : List ℕ) (starts : List ℕ) (i : ℕ) (h : i < length S) (held gone mapped : List ℕ) (I : List Word) where
  abbrev C : List Word
  C = literals_at nodes S

  abbrev kept : List Word
  kept = literals_at nodes starts

  lt : i < length C
  lt = omega (arith, length-map S (word_at nodes), h)

  module _ (p : Progress C i kept held gone) (m : Image C (kept ++ drop i C) mapped gone I) (after : List ℕ) (here : bit_at after i ≡ 1) (others : (j : ℕ) → (j ≢ i) → bit_at after j ≡ bit_at gone j) where
    -- a literal into which none was turned is dropped
    pub free-progress : bit_at mapped i ≡ 0 → Progress C (i + 1) kept held after
    free-progress n = drop-step C i kept lt held gone p after here others (free-drops C i kept lt held gone p mapped I m after here others n)

    pub free-stays : bit_at mapped i ≡ 0 → Image C (kept ++ drop (i + 1) C) mapped after I
    free-stays n = free-image C i kept lt held gone p mapped I m after here others n

    -- a literal without which some choice works is dropped
    pub spare-progress : (choice : ℕ → ℕ) → ChoosesOutside after I C choice → Progress C (i + 1) kept held after
    spare-progress choice c = drop-step C i kept lt held gone p after here others (spare-drops C i kept lt held gone p mapped I m after here others choice c)

    pub spare-next : (choice : ℕ → ℕ) → ChoosesOutside after I C choice → (next : List ℕ) (J : List Word) → Taken C (length I) choice next J → Image C (kept ++ drop (i + 1) C) next after J
    spare-next choice c next J t = spare-image C i kept lt held gone p mapped I m after here others choice c next J t.all t.only

    -- what was decided where more is out: no choice that leaves alone what is held, or a choice
    module _ (out : List ℕ) (more : Within after out) (same : (j : ℕ) → bit_at held j ≡ 1 → bit_at out j ≡ bit_at after j) where
      pub apart : Apart held out C
      apart = let a = apart-after C i kept lt held gone p after here others in record { here = λ j l b. same j b ∙ a.here j l b; once = a.once }

      pub decided-without : (o : Option (List (Option ℕ))) → ((θ : ℕ → Word) → Retracts held after C θ → Retracts held out C θ)
          → MatchOption o ((θ : ℕ → Word) → All (λ l. Outside out C (sub θ l)) I → Stays held C θ → ⊥) (λ picks. ChoosesOutside out I C (picked picks))
          → MatchOption o ((θ : ℕ → Word) → Retracts held after C θ → ⊥) (λ picks. ChoosesOutside after I C (picked picks))
      decided-without (Some picks) on c = (c.0, λ k h. let d = c.1 k h in (d.0, not-within after out more (picked picks k) d.1, d.2))
      decided-without None on none = λ θ r. let q = on θ r in none θ (image-outside C i kept lt held gone p mapped I m out θ q) q.stays

    -- and any other is kept
    module _ (held' : List ℕ) (free : (j : ℕ) → (j ≢ i) → bit_at held' j ≡ bit_at held j) (none : (θ : ℕ → Word) → Retracts held after C θ → ⊥) where
      needed-progress : Progress C (i + 1) (kept ++ literal C i kept lt ∷ []) held' gone
      needed-progress = keep-step C i kept lt held gone p held' free (needed-stays C i kept lt held gone p mapped I m after here others none)

      more : kept ++ literal C i kept lt ∷ [] ≡ literals_at nodes (starts ++ get_or S i 0 ∷ [])
      more = ap (λ (w : Word). kept ++ w ∷ []) (get_or-map (word_at nodes) S i 0 (var 0) h) ∙ sym (map-append (word_at nodes) starts (get_or S i 0 ∷ []))

      pub needed-more : Progress C (i + 1) (literals_at nodes (starts ++ get_or S i 0 ∷ [])) held' gone
      needed-more = subst (λ (l : List Word). Progress C (i + 1) l held' gone) more needed-progress

      pub needed-image : Image C (literals_at nodes (starts ++ get_or S i 0 ∷ []) ++ drop (i + 1) C) mapped gone I
      needed-image =
          let whole : literals_at nodes (starts ++ get_or S i 0 ∷ []) ++ drop (i + 1) C ≡ kept ++ drop i C =
          ap (λ (l : List Word). l ++ drop (i + 1) C) (sym more) ∙ hand-pushed C i kept lt in
          record {
            covered = subst (λ (D : List Word). Covers D I) (sym whole) m.covered;
            places = λ w c. let s = m.places w c in (s.0, s.1, s.2, s.3, s.4);
          }

      -- with 16 kept before it
      pub needed-full : length starts ≡ 16 → TooMany C
      needed-full full R t =
          let P = needed-progress in
          let K = kept ++ literal C i kept lt ∷ [] in
          let long : length K ≡ 17 = omega (arith, length_push kept (literal C i kept lt), length-map starts (word_at nodes), full) in
          let front = tidies-front (P.back R t) (omega (arith, length-append K (drop (i + 1) C))) in
          omega (arith, ap length front, long, length-take (length K) R, length-take (length K) (K ++ drop (i + 1) C), length-append K (drop (i + 1) C))
