-- Choices as lists, and as functions.
use Rattle.std.proofs.Common.{◌≡◌, ℕ, zero, suc, ◌<◌, Bool, List, [], ◌∷◌, length, get_or, Some, Decides, sym, ap, ◌∙◌, subst, arith}
use Rattle.std.specs.List.{slice_get, AllZip}
use Rattle.std.proofs.lemmas.List.{get_or-map, length-map}
use Rattle.std.proofs.lemmas.Option.{slice_get-get_or, slice_get_within, get_or_from_slice_get}
use Rattle.std.proofs.lemmas.Slice.Zip.{AllZip-long}
use Rattle.term.specs.Coding.{word_at}
use Rattle.term.specs.Words.{Word, var, sub}
use Rattle.term.specs.declared.node.Node.{Node}
use Rattle.clauses.specs.Clauses.{literals_at}
use Rattle.subsume.specs.Solving.{TurnsAt, Works}
use Rattle.subsume.specs.FirstChoices.{Chooses}

-- what holds of the elements of two lists, place by place
zip-at : {A B : Type 0} (R : A → B → Type 0) (xs : List A) (ys : List B) → AllZip R xs ys → (i : ℕ) (d : A) (e : B) → i < length xs → R (get_or xs i d) (get_or ys i e)
zip-at R [] ys h i d e l = absurd (omega arith)
zip-at R (x ∷ xs) [] h i d e l = absurd h
zip-at R (x ∷ xs) (y ∷ ys) h zero d e l = h.0
zip-at R (x ∷ xs) (y ∷ ys) h (suc i) d e l = zip-at R xs ys h.1 i d e (omega arith)

zip-from : {A B : Type 0} (R : A → B → Type 0) (xs : List A) (ys : List B) (d : A) (e : B) → length ys ≡ length xs → ((i : ℕ) → i < length xs → R (get_or xs i d) (get_or ys i e)) → AllZip R xs ys
zip-from R [] [] d e l h = tt
zip-from R [] (y ∷ ys) d e l h = absurd (omega (arith, l))
zip-from R (x ∷ xs) [] d e l h = absurd (omega (arith, l))
zip-from R (x ∷ xs) (y ∷ ys) d e l h = (h 0 (omega arith), zip-from R xs ys d e (omega (arith, l)) (λ i k. h (suc i) (omega arith)))

module _ (N : List Node) (S : List ℕ) (M : List Node) (T : List ℕ) (js : List ℕ) where
  abbrev R : (ℕ → Word) → Word → ℕ → Type 0
  R θ l j = slice_get (literals_at M T) j ≡ Some (sub θ l)

  -- a choice that works, literal by literal
  pub record Working : Type 0 where
    pub long : length js ≡ length S
    pub inside : (i : ℕ) → i < length S → get_or js i 0 < length T
    pub works : Works N S M T (λ i. get_or js i 0)

  pub chooses-working : Chooses (literals_at N S) (literals_at M T) js → Working
  chooses-working c =
      let θ = c.0 in
      let long = length-map S (word_at N) in
      let at : (i : ℕ) → i < length S → slice_get (literals_at M T) (get_or js i 0) ≡ Some (sub θ (word_at N (get_or S i 0))) = λ i h.
      zip-at (R θ) (literals_at N S) js c.1 i (var 0) 0 (omega (arith, long)) ∙ ap (λ (l : Word). Some (sub θ l)) (get_or-map (word_at N) S i 0 (var 0) h) in
      let inside : (i : ℕ) → i < length S → get_or js i 0 < length T = λ i h. omega (arith, slice_get_within (literals_at M T) (get_or js i 0) _ (at i h), length-map T (word_at M)) in
      record {
        long = AllZip-long (R θ) (literals_at N S) js c.1 ∙ long;
        inside = inside;
        works = (θ, λ i h. sym (get_or_from_slice_get (literals_at M T) (get_or js i 0) _ (var 0) (at i h)) ∙ get_or-map (word_at M) T (get_or js i 0) 0 (var 0) (inside i h));
      }

  pub working-chooses : Working → Chooses (literals_at N S) (literals_at M T) js
  working-chooses w =
      let θ = w.works.0 in
      let long = length-map S (word_at N) in (
        θ,
        zip-from (R θ) (literals_at N S) js (var 0) 0 (w.long ∙ sym long) (λ i h.
            let k : i < length S = omega (arith, long) in
            slice_get-get_or (literals_at M T) (get_or js i 0) (var 0) (omega (arith, w.inside i k, length-map T (word_at M)))
            ∙ ap Some (get_or-map (word_at M) T (get_or js i 0) 0 (var 0) (w.inside i k) ∙ sym (w.works.1 i k) ∙ ap (sub θ) (sym (get_or-map (word_at N) S i 0 (var 0) k)))),
      )

  -- a choice as a function
  pub works-decides : (f : ℕ → ℕ) (r : Bool) → length js ≡ length S → ((i : ℕ) → i < length S → get_or js i 0 < length T) → ((i : ℕ) → i < length S → f i ≡ get_or js i 0) → Decides r (Works N S M T f)
      → Decides r (Chooses (literals_at N S) (literals_at M T) js)
  works-decides f r long inside same d = (
    λ e. let w = d.0 e in working-chooses (record { long = long; inside = inside; works = (w.0, λ i h. subst (TurnsAt N S M T w.0 i) (same i h) (w.1 i h)) }),
    λ c. let w = (chooses-working c).works in d.1 (w.0, λ i h. subst (TurnsAt N S M T w.0 i) (sym (same i h)) (w.1 i h)),
  )
