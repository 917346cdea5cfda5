-- Leaving out a needless literal by a substitution that does no more when it is done twice.
use Rattle.std.proofs.Common.{◌≡◌, ℕ, zero, suc, ◌+◌, ◌-◌, ◌*◌, ◌<◌, ◌≤◌, ◌⊎◌, List, [], ◌∷◌, length, get_or, remove, All, Contains, inl, inr, sym, ap, ◌∙◌, subst, mul-pos, arith}
use Rattle.std.proofs.Math.Decide.{ℕ_discrete}
use Rattle.std.proofs.lemmas.Bool.{cases_lt}
use Rattle.std.proofs.lemmas.List.{get_or_default}
use Rattle.std.proofs.lemmas.List.Elements.{All-nil, All-cons, All-head, All-tail, All-weaker, All-contains, All-contains_itself, Contains-get_or}
use Rattle.std.proofs.lemmas.List.Edits.{length-remove, get_or-remove_below, get_or-remove_above}
use Rattle.std.specs.Fn.{iterate}
use Rattle.term.specs.Words.{Word, var, sub}
use Rattle.term.proofs.Substitutions.{sub-var, sub-sub}
use Rattle.clauses.specs.Clauses.{Covers}
use Rattle.clauses.specs.Reduction.{Needed}
use Rattle.clauses.proofs.Parts.{All-from, removed-cases, removed-contains}
use Rattle.clauses.proofs.Coverings.{takes}
use Rattle.clauses.proofs.Smallest.{same-word, stands-once, reached}

module _ {X : Type 0} (f : X → X) where
  iterate-more : (m n : ℕ) (x : X) → iterate f (m + n) x ≡ iterate f m (iterate f n x)
  iterate-more m zero x = let z : m + zero ≡ m = omega arith in ap (λ k. iterate f k x) z
  iterate-more m (suc n) x = let z : m + suc n ≡ suc (m + n) = omega arith in ap (λ k. iterate f k x) z ∙ iterate-more m n (f x)

  iterate-fixed : (m : ℕ) (y : X) → iterate f m y ≡ y → (j : ℕ) → iterate f (j * m) y ≡ y
  iterate-fixed m y e zero = let z : zero * m ≡ 0 = omega arith in ap (λ k. iterate f k y) z
  iterate-fixed m y e (suc j) =
      let z : suc j * m ≡ j * m + m = omega arith in
      ap (λ k. iterate f k y) z ∙ iterate-more (j * m) m y ∙ ap (iterate f (j * m)) e ∙ iterate-fixed m y e j

  -- m steps from x, and as many again, end where m steps do
  abbrev Rests : ℕ → X → Type 0
  Rests m x = iterate f m (iterate f m x) ≡ iterate f m x

  -- so do the multiples of m
  rests-times : (m : ℕ) (x : X) → Rests m x → (j : ℕ) → 0 < j → Rests (j * m) x
  rests-times m x r zero lt = absurd (omega arith)
  rests-times m x r (suc j) lt =
      let z : suc j * m ≡ j * m + m = omega arith in
      let same : iterate f (suc j * m) x ≡ iterate f m x = ap (λ k. iterate f k x) z ∙ iterate-more (j * m) m x ∙ iterate-fixed m (iterate f m x) r j in
      ap (iterate f (suc j * m)) same ∙ iterate-fixed m (iterate f m x) r (suc j) ∙ sym same

  -- after a steps, the next c + 1 lead back
  abbrev Returns : (a c : ℕ) → X → Type 0
  Returns a c x = iterate f (suc c) (iterate f a x) ≡ iterate f a x

  rests-returned : (a c : ℕ) (x : X) → Returns a c x → Rests (suc a * suc c) x
  rests-returned a c x r =
      let m : ℕ = suc a * suc c in
      let d : ℕ = a * c + c + 1 in
      let y : X = iterate f a x in
      let z : m ≡ d + a = omega arith in
      let s : m + d ≡ d + m = omega arith in
      let there : iterate f m x ≡ iterate f d y = ap (λ k. iterate f k x) z ∙ iterate-more d a x in
      ap (iterate f m) there ∙ sym (iterate-more m d y) ∙ ap (λ k. iterate f k y) s ∙ iterate-more d m y ∙ ap (iterate f d) (iterate-fixed (suc c) y r (suc a))
      ∙ sym there

  -- from the elements of a list that f takes into itself
  module _ (C : List X) (inside : (x : X) → Contains C x → Contains C (f x)) where
    iterate-inside : (k : ℕ) (x : X) → Contains C x → Contains C (iterate f k x)
    iterate-inside zero x i = i
    iterate-inside (suc k) x i = iterate-inside k (f x) (inside x i)

    iterate-into : (D : List X) → ((x : X) → Contains C x → Contains D (f x)) → (m : ℕ) → 0 < m → (x : X) → Contains C x → Contains D (iterate f m x)
    iterate-into D g zero lt x i = absurd (omega arith)
    iterate-into D g (suc m) lt x i =
        let z : suc m ≡ 1 + m = omega arith in
        subst (Contains D) (sym (ap (λ k. iterate f k x) z ∙ iterate-more 1 m x)) (g (iterate f m x) (iterate-inside m x i))

  module _ (same : Discrete X) where
    missed : (n : ℕ) (x y : X) → (x ≡ y → ⊥) → ((k : ℕ) → k < n → iterate f k (f x) ≡ y → ⊥) → (k : ℕ) → k < suc n → iterate f k x ≡ y → ⊥
    missed n x y q none zero lt e = q e
    missed n x y q none (suc k) lt e = none k (omega arith) e

    -- y is met within the first n steps, or it is not
    met : (n : ℕ) (x y : X) → ((k : ℕ) × (k < n) × (iterate f k x ≡ y)) ⊎ ((k : ℕ) → k < n → iterate f k x ≡ y → ⊥)
    met zero x y = inr (λ k lt e. absurd (omega arith))
    met (suc n) x y = elim (same x y) [
      | yes e ↦ inl (0, omega arith, e)
      | no q ↦
          elim (met n (f x) y) [
            | inl r ↦ inl (suc r.0, omega (arith, r.1), r.2)
            | inr none ↦ inr (missed n x y q none)
          ]
    ]

    -- steps that do not leave a list return (the pigeonhole principle)
    returns : (n : ℕ) (D : List X) (x : X) → length D ≤ n → ((k : ℕ) → k ≤ n → Contains D (iterate f k x)) → (a : ℕ) × (c : ℕ) × Returns a c x
    returns zero D x short stays = let i = stays 0 (omega arith) in let lt = i.1 in absurd (omega arith)
    returns (suc n) D x short stays =
        let i = stays 0 (omega arith) in
        elim (met (suc n) (f x) x) [
          | inl r ↦ (0, r.0, r.2)
          | inr none ↦
              let r = returns n (remove D i.0) (f x) (omega (arith, length-remove D i.0 i.1))
              (λ k le. elim (removed-cases D x (iterate f k (f x)) i (stays (suc k) (omega arith))) [ inl e ↦ absurd (none k (omega arith) (sym e)) | inr c ↦ c ]) in
              (suc r.0, r.1, r.2)
        ]

    module _ (C : List X) (inside : (x : X) → Contains C x → Contains C (f x)) where
      -- one number of steps, at least 1, does for each element
      all-rest : (xs : List X) → All (Contains C) xs → (m : ℕ) × (0 < m) × All (Rests m) xs
      all-rest [] h = (1, omega arith, All-nil (Rests 1))
      all-rest (x ∷ xs) h =
          let n = all-rest xs (All-tail (Contains C) x xs h) in
          let r = returns (length C) C x (omega arith) (λ k le. iterate-inside C inside k x (All-head (Contains C) x xs h)) in
          let m : ℕ = suc r.0 * suc r.1 in
          let p : 0 < m = omega arith in
          let z : m * n.0 ≡ n.0 * m = omega arith in (
            m * n.0,
            mul-pos p n.1,
            All-cons (Rests (m * n.0)) x xs (subst (λ k. Rests k x) (sym z) (rests-times m x (rests-returned r.0 r.1 x r.2) n.0 n.1))
                (All-weaker (Rests n.0) (Rests (m * n.0)) (λ y q. rests-times n.0 y q m p) xs n.2),
          )

-- a substitution done m times
abbrev power : (θ : ℕ → Word) (m : ℕ) → ℕ → Word
power θ zero x = var x
power θ (suc m) x = sub (power θ m) (θ x)

sub-power : (θ : ℕ → Word) (m : ℕ) (u : Word) → sub (power θ m) u ≡ iterate (sub θ) m u
sub-power θ zero u = sub-var u
sub-power θ (suc m) u = sym (sub-sub (power θ m) θ u) ∙ sub-power θ m (sub θ u)

-- of what takes a clause into itself some power does no more when it is done twice. It takes the clause wherever the
-- substitution does
pub idempotent : (C : List Word) (θ : ℕ → Word) → All (λ l. Contains C (sub θ l)) C
    → (ρ : ℕ → Word) × ((l : Word) → Contains C l → sub ρ (sub ρ l) ≡ sub ρ l) × ((D : List Word) → All (λ l. Contains D (sub θ l)) C → All (λ l. Contains D (sub ρ l)) C)
idempotent C θ h =
    let inside = takes C C (θ, h) in
    let r = all-rest (sub θ) same-word C inside C (All-contains_itself C) in (
      power θ r.0,
      λ l i. sub-power θ r.0 (sub (power θ r.0) l) ∙ ap (iterate (sub θ) r.0) (sub-power θ r.0 l) ∙ All-contains (Rests (sub θ) r.0) C l r.2 i ∙ sym (sub-power θ r.0 l),
      λ D g. All-from (λ l. Contains D (sub (power θ r.0) l)) C (λ l i. subst (Contains D) (sym (sub-power θ r.0 l)) (iterate-into (sub θ) C inside D (takes C D (θ, g)) r.0 r.1 l i)),
    )

abbrev at : (C : List Word) (k : ℕ) → k < length C → Contains C (get_or C k (var 0))
at C k lt = (k, lt, get_or_default C k (get_or C k (var 0)) (var 0) lt)

-- Where a clause covers the part D without a literal of it that has others needed before it, some substitution takes it there
-- that does no more when it is done twice, and leaves the needed ones as they are.
module _ (hand : ℕ) (C D : List Word) (lt : hand < length D) (needed : Needed hand D) (part : All (Contains C) D) (c : Covers C (remove D hand)) where
  abbrev R : List Word
  R = remove D hand

  back : (l : Word) → Contains R l → Contains C l
  back l i = All-contains (Contains C) D l part (removed-contains D hand l i)

  pub retracts : (ρ : ℕ → Word) × All (λ l. Contains R (sub ρ l)) C × ((l : Word) → Contains C l → sub ρ (sub ρ l) ≡ sub ρ l)
      × ((k : ℕ) → k < hand → sub ρ (get_or D k (var 0)) ≡ get_or D k (var 0))
  retracts =
      let p = idempotent C c.0 (All-weaker (λ l. Contains R (sub c.0 l)) (λ l. Contains C (sub c.0 l)) (λ l. back (sub c.0 l)) C c.1) in
      let into = p.2 R c.1 in
      let itself : Covers D D = (
        p.0,
        All-from (λ l. Contains D (sub p.0 l)) D
            (λ l i. removed-contains D hand (sub p.0 l) (All-contains (λ m. Contains R (sub p.0 m)) C l into (All-contains (Contains C) D l part i))),
      ) in (
        p.0,
        into,
        p.1,
        λ k below.
            let within : k < length D = omega arith in
            let r = reached D (get_or D k (var 0)) (at D k within) (needed k below within) itself in
            ap (sub p.0) (sym r.2) ∙ p.1 r.0 (All-contains (Contains C) D r.0 part r.1) ∙ r.2,
      )

-- an element stands in what is left without the element at another place
other-left : {X : Type 0} (xs : List X) (k j : ℕ) (d : X) → k < length xs → j < length xs → (k ≡ j → ⊥) → Contains (remove xs k) (get_or xs j d)
other-left xs k j d lk lj q = elim (cases_lt j k) [
  | inl lt ↦ subst (Contains (remove xs k)) (get_or-remove_below xs k d j lt lk) (Contains-get_or (remove xs k) j d (omega (arith, length-remove xs k lk)))
  | inr le ↦ elim (cases_lt k j) [
    | inl lt ↦
        let z : j - 1 + 1 ≡ j = omega arith in
        subst (Contains (remove xs k)) (get_or-remove_above xs k d (j - 1) (omega arith) lk ∙ ap (λ n. get_or xs n d) z)
        (Contains-get_or (remove xs k) (j - 1) d (omega (arith, length-remove xs k lk)))
    | inr same ↦ absurd (q (omega arith))
  ]
]

-- a needed literal stands once
pub needed-once : (hand : ℕ) (C : List Word) → Needed hand C → (k j : ℕ) → k < hand → k < length C → j < length C → get_or C k (var 0) ≡ get_or C j (var 0) → k ≡ j
needed-once hand C n k j below lk lj e = elim (ℕ_discrete k j) [
  | yes p ↦ p
  | no q ↦ absurd (stands-once C (get_or C k (var 0)) (at C k lk) (n k below lk) (subst (Contains (remove C k)) (sym e) (other-left C k j (var 0) lk lj q)))
]
