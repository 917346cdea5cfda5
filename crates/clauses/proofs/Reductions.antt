-- What tidying leaves is tidy, says the same, and is one clause.
use Rattle.std.proofs.Common.{◌≡◌, ℕ, zero, suc, ◌+◌, ◌<◌, ◌≤◌, List, length, take, drop, remove, All, Contains, sum_by, inl, inr, sym, refl, ap, ◌∙◌, subst, arith}
use Rattle.std.proofs.lemmas.Bool.{cases_lt}
use Rattle.std.proofs.lemmas.List.{length-take-le, take-take, take_at}
use Rattle.std.proofs.lemmas.List.Elements.{All-contains_itself}
use Rattle.std.proofs.lemmas.List.Edits.{length-remove}
use Rattle.std.proofs.lemmas.List.Sums.{sum_by-remove}
use Rattle.term.specs.Words.{Word, var}
use Rattle.clauses.specs.Clauses.{Covers}
use Rattle.clauses.specs.Reduction.{Tidy, Needed, Tidies, done, drops, keeps}
use Rattle.clauses.proofs.Parts.{All-remove, remove-remove}
use Rattle.clauses.proofs.Coverings.{covers-part, covers-itself, covers-through, removed-covers}

pub needed-none : (C : List Word) → Needed 0 C
needed-none C = λ k lt. absurd (omega arith)

pub needed-kept : (hand : ℕ) (C : List Word) → (Covers C (remove C hand) → ⊥) → Needed hand C → Needed (hand + 1) C
needed-kept hand C c n k lt within d = elim (cases_lt k hand) [
  | inl l ↦ n k l within d
  | inr le ↦ (let e : k ≡ hand = omega arith in c (subst (λ j. Covers C (remove C j)) e d))
]

pub needed-removed : (hand : ℕ) (C : List Word) → hand < length C → Covers C (remove C hand) → Needed hand C → Needed hand (remove C hand)
needed-removed zero C h c n k lt within d = absurd (omega arith)
needed-removed (suc hand) C h c n k lt within d =
    n k lt (omega arith)
    (covers-through C (remove C (suc hand)) (remove C k) c
    (covers-through (remove C (suc hand)) (remove (remove C (suc hand)) k) (remove C k) d
    (subst (λ D. Covers D (remove C k)) (sym (remove-remove C hand k (omega arith))) (removed-covers (remove C k) hand))))

needed-tidy : {hand : ℕ} {C R : List Word} → Tidies hand C R → Needed hand C → Tidy R
needed-tidy (done h) n = λ k lt. n k (omega arith) lt
needed-tidy (drops {hand = hand} {C = C} h c t) n = needed-tidy t (needed-removed hand C h c n)
needed-tidy (keeps {hand = hand} {C = C} h c t) n = needed-tidy t (needed-kept hand C c n)

pub tidies-tidy : (C R : List Word) → Tidies 0 C R → Tidy R
tidies-tidy C R t = needed-tidy t (needed-none C)

-- the clause and what tidying leaves cover each other
pub tidies-down : {hand : ℕ} {C R : List Word} → Tidies hand C R → Covers C R
tidies-down (done {C = C} h) = covers-itself C
tidies-down (drops {hand = hand} {C = C} {R = R} h c t) = covers-through C (remove C hand) R c (tidies-down t)
tidies-down (keeps h c t) = tidies-down t

-- what holds of each literal still does
pub All-tidies : (P : Word → Type 0) {hand : ℕ} {C R : List Word} → Tidies hand C R → All P C → All P R
All-tidies P (done h) a = a
All-tidies P (drops {hand = hand} {C = C} h c t) a = All-tidies P t (All-remove P C hand a)
All-tidies P (keeps h c t) a = All-tidies P t a

pub tidies-part : {hand : ℕ} {C R : List Word} → Tidies hand C R → All (Contains C) R
tidies-part {C = C} t = All-tidies (Contains C) t (All-contains_itself C)

pub tidies-up : {hand : ℕ} {C R : List Word} → Tidies hand C R → Covers R C
tidies-up {C = C} {R = R} t = covers-part R C (tidies-part t)

pub length-tidies : {hand : ℕ} {C R : List Word} → Tidies hand C R → length R ≤ length C
length-tidies (done h) = omega arith
length-tidies (drops {hand = hand} {C = C} h c t) = omega (arith, length-tidies t, length-remove C hand h)
length-tidies (keeps h c t) = length-tidies t

pub sum_by-tidies : (f : Word → ℕ) {hand : ℕ} {C R : List Word} → Tidies hand C R → sum_by f R ≤ sum_by f C
sum_by-tidies f (done h) = omega arith
sum_by-tidies f (drops {hand = hand} {C = C} h c t) = omega (arith, sum_by-tidies f t, sum_by-remove f C hand (var 0) h)
sum_by-tidies f (keeps h c t) = sum_by-tidies f t

-- tidying leaves one clause
pub tidies-one : {hand : ℕ} {C R S : List Word} → Tidies hand C R → Tidies hand C S → R ≡ S
tidies-one (done h) (done i) = refl
tidies-one (done h) (drops i d u) = absurd (omega arith)
tidies-one (done h) (keeps i d u) = absurd (omega arith)
tidies-one (drops h c t) (done i) = absurd (omega arith)
tidies-one (drops h c t) (drops i d u) = tidies-one t u
tidies-one (drops h c t) (keeps i d u) = absurd (d c)
tidies-one (keeps h c t) (done i) = absurd (omega arith)
tidies-one (keeps h c t) (drops i d u) = absurd (c d)
tidies-one (keeps h c t) (keeps i d u) = tidies-one t u

-- a tidy clause is left as it is
left_alone : (left hand : ℕ) (C : List Word) → Tidy C → length C ≤ hand + left → Tidies hand C C
left_alone zero hand C t h = done (omega arith)
left_alone (suc left) hand C t h = elim (cases_lt hand (length C)) [
  | inl lt ↦ keeps lt (t hand lt) (left_alone left (hand + 1) C t (omega arith))
  | inr le ↦ done le
]

pub tidy-tidies : (C : List Word) → Tidy C → Tidies 0 C C
tidy-tidies C t = left_alone (length C) 0 C t (omega arith)

-- where covering is decided, each clause can be tidied
module _ (decided : (C D : List Word) → Dec (Covers C D)) where
  tidied-from : (left hand : ℕ) (C : List Word) → length C ≤ hand + left → (R : List Word) × Tidies hand C R
  tidied-from zero hand C h = (C, done (omega arith))
  tidied-from (suc left) hand C h = elim (cases_lt hand (length C)) [
    | inr le ↦ (C, done le)
    | inl lt ↦
        elim (decided C (remove C hand)) [
          | yes c ↦ let r = tidied-from left hand (remove C hand) (omega (arith, length-remove C hand lt)) in (r.0, drops lt c r.1)
          | no c ↦ let r = tidied-from left (hand + 1) C (omega arith) in (r.0, keeps lt c r.1)
        ]
  ]

  pub tidied : (C : List Word) → (R : List Word) × Tidies 0 C R
  tidied C = tidied-from (length C) 0 C (omega arith)

-- nor can it be that nothing is left of some clause by tidying
some-from : (left hand : ℕ) (C : List Word) → length C ≤ hand + left → ((R : List Word) → Tidies hand C R → ⊥) → ⊥
some-from zero hand C h none = none C (done (omega arith))
some-from (suc left) hand C h none = elim (cases_lt hand (length C)) [
  | inr le ↦ none C (done le)
  | inl lt ↦
      let held : Covers C (remove C hand) → ⊥ = λ c. some-from left hand (remove C hand) (omega (arith, length-remove C hand lt)) (λ R t. none R (drops lt c t)) in
      some-from left (hand + 1) C (omega arith) (λ R t. none R (keeps lt held t))
]

pub some-tidies : (C : List Word) → ((R : List Word) → Tidies 0 C R → ⊥) → ⊥
some-tidies C none = some-from (length C) 0 C (omega arith) none

-- one step of tidying, and what comes after it
pub after-drop : {hand : ℕ} {C R : List Word} → Tidies hand C R → hand < length C → Covers C (remove C hand) → Tidies hand (remove C hand) R
after-drop (done h) lt c = absurd (omega arith)
after-drop (drops h d t) lt c = t
after-drop (keeps h d t) lt c = absurd (d c)

pub after-keep : {hand : ℕ} {C R : List Word} → Tidies hand C R → hand < length C → (Covers C (remove C hand) → ⊥) → Tidies (hand + 1) C R
after-keep (done h) lt n = absurd (omega arith)
after-keep (drops h d t) lt n = absurd (n d)
after-keep (keeps h d t) lt n = t

-- the literals before the one in hand are left
take-remove : (C : List Word) (hand : ℕ) → hand < length C → take hand (remove C hand) ≡ take hand C
take-remove C hand lt = take_at (take hand C) (drop (suc hand) C) hand (length-take-le hand C (omega arith))

pub tidies-front : {hand : ℕ} {C R : List Word} → Tidies hand C R → hand ≤ length C → take hand R ≡ take hand C
tidies-front (done h) le = refl
tidies-front (drops {hand = hand} {C = C} h c t) le = tidies-front t (omega (arith, length-remove C hand h)) ∙ take-remove C hand h
tidies-front (keeps {hand = hand} {C = C} {R = R} h c t) le =
    sym (take-take hand (hand + 1) R (omega arith)) ∙ ap (take hand) (tidies-front t (omega arith)) ∙ take-take hand (hand + 1) C (omega arith)
