-- Counting by partners.
use Rattle.std.proofs.Common.{◌≡◌, ℕ, zero, suc, ◌+◌, ◌<◌, ◌≤◌, ◌≢◌, ◌⊎◌, List, [], ◌∷◌, length, remove, AllPairs, Contains, sum_by, inl, inr, sym, refl, ap, ◌∙◌, subst, arith}
use Rattle.std.proofs.lemmas.List.Sums.{sum_by-cons, sum_by-remove}
use Rattle.std.proofs.lemmas.List.Kept.{AllPairs-cons}
use Rattle.clauses.proofs.Parts.{All-from, contains-tail, contains-cases, removed-cases, removed-contains}

module _ {X : Type 0} where
  -- no element stands twice
  abbrev pub Apart : List X → Type 0
  Apart [] = Unit {0}
  Apart (x ∷ xs) = (Contains xs x → ⊥) × Apart xs

  pub apart-from : (xs : List X) → ((x : X) (i : Contains xs x) → Contains (remove xs i.0) x → ⊥) → Apart xs
  apart-from [] h = tt
  apart-from (x ∷ xs) h = (h x (0, omega arith, refl), apart-from xs (λ y i c. h y (suc i.0, omega (arith, i.1), i.2) (contains-tail x y (remove xs i.0) c)))

  pub pairs_apart : (xs : List X) → Apart xs → AllPairs (λ x y. x ≢ y) xs
  pairs_apart [] a = λ i j d lt within. absurd (omega arith)
  pairs_apart (x ∷ xs) a = AllPairs-cons (λ (x : X) (y : X). x ≢ y) x xs (All-from (λ y. x ≢ y) xs (λ y c e. a.0 (subst (Contains xs) (sym e) c))) (pairs_apart xs a.1)

  pub apart-removed : (xs : List X) (k : ℕ) → Apart xs → Apart (remove xs k)
  apart-removed [] zero a = tt
  apart-removed [] (suc k) a = tt
  apart-removed (x ∷ xs) zero a = a.1
  apart-removed (x ∷ xs) (suc k) a = (λ c. a.0 (removed-contains xs k x c), apart-removed xs k a.1)

  pub sum_by-part : (f : X → ℕ) (xs : List X) (x : X) (i : Contains xs x) → sum_by f (remove xs i.0) + f x ≡ sum_by f xs
  sum_by-part f xs x i = ap (λ y. sum_by f (remove xs i.0) + f y) (sym i.2) ∙ sum_by-remove f xs i.0 x i.1

  pub ones : (xs : List X) → sum_by (λ _. 1) xs ≡ length xs
  ones [] = refl
  ones (x ∷ xs) = omega (arith, sum_by-cons (λ (_ : X). 1) x xs, ones xs)

-- where each element of a list, none of which stands twice, has a partner of its own, no smaller than it, the partners'
-- sum is no smaller
module _ {A B : Type 0} (f : A → ℕ) (g : B → ℕ) (R : A → B → Type 0) (le : (a : A) (b : B) → R a b → f a ≤ g b) where
  pub partners : (xs : List A) (ys : List B) → Apart xs → ((a : A) → Contains xs a → (b : B) × Contains ys b × R a b)
      → ((a c : A) (b : B) → Contains xs a → Contains xs c → R a b → R c b → a ≡ c) → sum_by f xs ≤ sum_by g ys
  partners [] ys n has own = omega arith
  partners (x ∷ xs) ys n has own =
      let first = has x (0, omega arith, refl) in
      let rest = partners xs (remove ys first.1.0) n.1
      (λ a m. let h = has a (contains-tail x a xs m) in
      elim (removed-cases ys first.0 h.0 first.1 h.1) [
        | inl e ↦ absurd (n.0 (subst (Contains xs) (sym (own x a h.0 (0, omega arith, refl) (contains-tail x a xs m) (subst (R x) e first.2) h.2)) m))
        | inr c ↦ (h.0, c, h.2)
      ])
      (λ a c b m k. own a c b (contains-tail x a xs m) (contains-tail x c xs k)) in
      omega (arith, rest, sum_by-cons f x xs, sum_by-part g ys first.0 first.1, le x first.0 first.2)

-- a function onto a list, none of which stands twice, from one that is no longer takes no two elements to one
module _ {A B : Type 0} (dec : Discrete A) (f : A → B) (xs : List A) (ys : List B) (n : Apart ys) (onto : (b : B) → Contains ys b → (a : A) × Contains xs a × (f a ≡ b)) where
  longer : (a c : A) (i : Contains xs a) → Contains xs c → f a ≡ f c → (a ≡ c → ⊥) → length ys < length xs
  longer a c i j e q =
      let rest = partners (λ (_ : B). 1) (λ (_ : A). 1) (λ b z. f z ≡ b) (λ b z r. omega arith) ys (remove xs i.0) n
      (λ b k. let r = onto b k in
      elim (removed-cases xs a r.0 i r.1) [
        | inl p ↦ elim (removed-cases xs a c i j) [ inl s ↦ absurd (q s) | inr m ↦ (c, m, sym e ∙ ap f p ∙ r.2) ]
        | inr m ↦ (r.0, m, r.2)
      ])
      (λ b d z _ _ r s. sym r ∙ s) in
      omega (arith, rest, ones ys, ones xs, sum_by-part (λ (_ : A). 1) xs a i)

  pub onto-apart : length xs ≤ length ys → (a c : A) → Contains xs a → Contains xs c → f a ≡ f c → a ≡ c
  onto-apart short a c i j e = elim (dec a c) [ yes p ↦ p | no q ↦ absurd (let l = longer a c i j e q in omega arith) ]

-- an element that a function takes to b, or there is none
module _ {A B : Type 0} (dec : Discrete B) (f : A → B) (b : B) where
  pub found : (xs : List A) → ((a : A) × Contains xs a × (f a ≡ b)) ⊎ ((a : A) → Contains xs a → f a ≡ b → ⊥)
  found [] = inr (λ a c. absurd (let lt = c.1 in omega arith))
  found (x ∷ xs) = elim (dec (f x) b) [
    | yes e ↦ inl (x, (0, omega arith, refl), e)
    | no n ↦
        elim (found xs) [
          | inl r ↦ inl (r.0, contains-tail x r.0 xs r.1, r.2)
          | inr k ↦ inr (λ a c e. elim (contains-cases x a xs c) [ inl p ↦ n (ap f p ∙ e) | inr m ↦ k a m e ])
        ]
  ]
