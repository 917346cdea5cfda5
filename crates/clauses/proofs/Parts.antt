-- Lists without one of their elements.
use Rattle.std.proofs.Common.{◌≡◌, ℕ, zero, suc, ◌≤◌, ◌⊎◌, inl, inr, List, [], ◌∷◌, get_or, All, Contains, remove, map, flat_map, sym, refl, ap, ◌∙◌, subst, arith}
use Rattle.std.proofs.lemmas.List.{get_or_default}
use Rattle.std.proofs.lemmas.List.Elements.{All-append, All-take, All-drop, Contains-get_or, Contains-append_left, Contains-append_right, Contains-append_cases, All-contains, All-contains_itself}

module _ {X : Type 0} where
  pub contains-none : (x : X) → Contains [] x → ⊥
  contains-none x c = let lt = c.1 in omega arith

  pub contains-head : (x y : X) (xs : List X) → x ≡ y → Contains (x ∷ xs) y
  contains-head x y xs e = (0, omega arith, e)

  pub contains-tail : (x y : X) (xs : List X) → Contains xs y → Contains (x ∷ xs) y
  contains-tail x y xs c = let lt = c.1 in (suc c.0, omega arith, c.2)

  pub contains-cases : (x y : X) (xs : List X) → Contains (x ∷ xs) y → (x ≡ y) ⊎ Contains xs y
  contains-cases x y xs (zero, lt, e) = inl e
  contains-cases x y xs (suc k, lt, e) = inr (k, omega arith, e)

  -- an element is the one that is left out, or stays
  cases-at : (xs : List X) (k : ℕ) (x : X) → Contains xs x → (get_or xs k x ≡ x) ⊎ Contains (remove xs k) x
  cases-at [] k x c = let lt = c.1 in absurd (omega arith)
  cases-at (y ∷ ys) zero x c = contains-cases y x ys c
  cases-at (y ∷ ys) (suc k) x (zero, lt, e) = inr (0, omega arith, e)
  cases-at (y ∷ ys) (suc k) x (suc i, lt, e) =
      elim (cases-at ys k x (i, omega arith, e)) [ inl h ↦ inl h | inr c ↦ inr (contains-tail y x (remove ys k) c) ]

  pub removed-cases : (xs : List X) (x y : X) (i : Contains xs x) → Contains xs y → (x ≡ y) ⊎ Contains (remove xs i.0) y
  removed-cases xs x y i j = elim (cases-at xs i.0 y j) [ inl e ↦ inl (sym i.2 ∙ get_or_default xs i.0 x y i.1 ∙ e) | inr c ↦ inr c ]

  pub All-from : (P : X → Type 0) (xs : List X) → ((x : X) → Contains xs x → P x) → All P xs
  All-from P xs h k d lt = h (get_or xs k d) (Contains-get_or xs k d lt)

  pub All-remove : (P : X → Type 0) (xs : List X) (k : ℕ) → All P xs → All P (remove xs k)
  All-remove P xs k h = All-append P _ _ (All-take P k xs h) (All-drop P (suc k) xs h)

  remove-none : (i : ℕ) → [] ≡ remove {X = X} [] i
  remove-none zero = refl
  remove-none (suc i) = refl

  -- which of two elements is left out first does not matter
  pub remove-remove : (xs : List X) (i k : ℕ) → k ≤ i → remove (remove xs (suc i)) k ≡ remove (remove xs k) i
  remove-remove [] i zero h = remove-none i
  remove-remove [] i (suc k) h = remove-none i
  remove-remove (x ∷ xs) i zero h = refl
  remove-remove (x ∷ xs) zero (suc k) h = absurd (omega arith)
  remove-remove (x ∷ xs) (suc i) (suc k) h = ap (λ (ys : List X). x ∷ ys) (remove-remove xs i k (omega arith))

  pub removed-contains : (xs : List X) (k : ℕ) (x : X) → Contains (remove xs k) x → Contains xs x
  removed-contains xs k x = All-contains (Contains xs) (remove xs k) x (All-remove (Contains xs) xs k (All-contains_itself xs))

module _ {X Y : Type 0} where
  pub contains-map : (f : X → Y) (xs : List X) (x : X) → Contains xs x → Contains (map f xs) (f x)
  contains-map f [] x c = absurd (contains-none x c)
  contains-map f (y ∷ ys) x c = elim (contains-cases y x ys c) [
    | inl e ↦ contains-head (f y) (f x) (map f ys) (ap f e)
    | inr d ↦ contains-tail (f y) (f x) (map f ys) (contains-map f ys x d)
  ]

  pub map-contains : (f : X → Y) (xs : List X) (y : Y) → Contains (map f xs) y → (x : X) × Contains xs x × (f x ≡ y)
  map-contains f [] y c = absurd (contains-none y c)
  map-contains f (x ∷ xs) y c = elim (contains-cases (f x) y (map f xs) c) [
    | inl e ↦ (x, contains-head x x xs refl, e)
    | inr d ↦ let r = map-contains f xs y d in (r.0, contains-tail x r.0 xs r.1, r.2)
  ]

  pub contains-flat_map : (f : X → List Y) (xs : List X) (x : X) (y : Y) → Contains xs x → Contains (f x) y → Contains (flat_map f xs) y
  contains-flat_map f [] x y c d = absurd (contains-none x c)
  contains-flat_map f (z ∷ zs) x y c d = elim (contains-cases z x zs c) [
    | inl e ↦ Contains-append_left (f z) (flat_map f zs) y (subst (λ u. Contains (f u) y) (sym e) d)
    | inr k ↦ Contains-append_right (f z) (flat_map f zs) y (contains-flat_map f zs x y k d)
  ]

  pub flat_map-contains : (f : X → List Y) (xs : List X) (y : Y) → Contains (flat_map f xs) y → (x : X) × Contains xs x × Contains (f x) y
  flat_map-contains f [] y c = absurd (contains-none y c)
  flat_map-contains f (x ∷ xs) y c = elim (Contains-append_cases (f x) (flat_map f xs) y c) [
    | inl d ↦ (x, contains-head x x xs refl, d)
    | inr d ↦ let r = flat_map-contains f xs y d in (r.0, contains-tail x r.0 xs r.1, r.2)
  ]
