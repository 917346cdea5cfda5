-- Numbers in the order of their first standing.
use Rattle.std.proofs.Common.{◌≡◌, ℕ, suc, ◌<◌, ◌≤◌, max, ◌⊎◌, List, [], ◌∷◌, length, get_or, map, Contains, fold, inl, inr, sym, refl, ap, ◌∙◌, subst, arith}
use Rattle.std.proofs.Math.Decide.{ℕ_discrete}
use Rattle.std.proofs.Math.Logic.{ite}
use Rattle.std.proofs.lemmas.Bool.{cases_lt}
use Rattle.term.specs.Lawful.{Numbered}
use Rattle.term.proofs.Cases.{by-test, by-test-both}
use Rattle.clauses.specs.Numbering.{enlist, rank, firsts}
use Rattle.clauses.proofs.Parts.{contains-none, contains-head, contains-tail, contains-cases}
use Rattle.clauses.proofs.Counts.{Apart}

module _ (x : ℕ) where
  enlist-keeps : (ys : List ℕ) (y : ℕ) → Contains ys y → Contains (enlist ys x) y
  enlist-keeps [] y c = absurd (contains-none y c)
  enlist-keeps (z ∷ ys) y c =
      by-test (λ (l : List ℕ). Contains (z ∷ l) y) (ℕ_discrete x z) (λ _. c)
      (λ _. elim (contains-cases z y ys c) [ inl e ↦ contains-head z y (enlist ys x) e | inr d ↦ contains-tail z y (enlist ys x) (enlist-keeps ys y d) ])

  enlist-has : (ys : List ℕ) → Contains (enlist ys x) x
  enlist-has [] = contains-head x x [] refl
  enlist-has (z ∷ ys) =
      by-test (λ (l : List ℕ). Contains (z ∷ l) x) (ℕ_discrete x z) (λ e. contains-head z x ys (sym e)) (λ _. contains-tail z x (enlist ys x) (enlist-has ys))

  enlist-cases : (ys : List ℕ) (y : ℕ) → Contains (enlist ys x) y → (x ≡ y) ⊎ Contains ys y
  enlist-cases [] y c = contains-cases x y [] c
  enlist-cases (z ∷ ys) y c =
      by-test (λ (l : List ℕ). Contains (z ∷ l) y → (x ≡ y) ⊎ Contains (z ∷ ys) y) (ℕ_discrete x z) (λ _ d. inr d)
      (λ _ d. elim (contains-cases z y (enlist ys x) d) [
        | inl e ↦ inr (contains-head z y ys e)
        | inr f ↦ elim (enlist-cases ys y f) [ inl e ↦ inl e | inr g ↦ inr (contains-tail z y ys g) ]
      ]) c

  enlist-apart : (ys : List ℕ) → Apart ys → Apart (enlist ys x)
  enlist-apart [] a = (contains-none x, tt)
  enlist-apart (z ∷ ys) a =
      by-test (λ (l : List ℕ). Apart (z ∷ l)) (ℕ_discrete x z) (λ _. a)
      (λ n. (λ c. elim (enlist-cases ys z c) [ inl e ↦ n e | inr d ↦ a.0 d ], enlist-apart ys a.1))

all-keep : (ys xs : List ℕ) (y : ℕ) → Contains ys y → Contains (fold enlist ys xs) y
all-keep ys [] y c = c
all-keep ys (x ∷ xs) y c = all-keep (enlist ys x) xs y (enlist-keeps x ys y c)

all-have : (ys xs : List ℕ) (y : ℕ) → Contains xs y → Contains (fold enlist ys xs) y
all-have ys [] y c = absurd (contains-none y c)
all-have ys (x ∷ xs) y c =
    elim (contains-cases x y xs c) [
      | inl e ↦ all-keep (enlist ys x) xs y (subst (Contains (enlist ys x)) e (enlist-has x ys))
      | inr d ↦ all-have (enlist ys x) xs y d
    ]

all-cases : (ys xs : List ℕ) (y : ℕ) → Contains (fold enlist ys xs) y → Contains ys y ⊎ Contains xs y
all-cases ys [] y c = inl c
all-cases ys (x ∷ xs) y c =
    elim (all-cases (enlist ys x) xs y c) [
      | inl d ↦ elim (enlist-cases x ys y d) [ inl e ↦ inr (contains-head x y xs e) | inr f ↦ inl f ]
      | inr d ↦ inr (contains-tail x y xs d)
    ]

all-apart : (ys xs : List ℕ) → Apart ys → Apart (fold enlist ys xs)
all-apart ys [] a = a
all-apart ys (x ∷ xs) a = all-apart (enlist ys x) xs (enlist-apart x ys a)

pub firsts-have : (xs : List ℕ) (x : ℕ) → Contains xs x → Contains (firsts xs) x
firsts-have xs = all-have [] xs

pub firsts-only : (xs : List ℕ) (x : ℕ) → Contains (firsts xs) x → Contains xs x
firsts-only xs x c = elim (all-cases [] xs x c) [ inl d ↦ absurd (contains-none x d) | inr d ↦ d ]

pub firsts-apart : (xs : List ℕ) → Apart (firsts xs)
firsts-apart xs = all-apart [] xs tt

-- the place of a number
pub rank-read : (ys : List ℕ) (x d : ℕ) → Contains ys x → get_or ys (rank ys x) d ≡ x
rank-read [] x d c = absurd (contains-none x c)
rank-read (y ∷ ys) x d c =
    by-test (λ (k : ℕ). get_or (y ∷ ys) k d ≡ x) (ℕ_discrete x y) (λ e. sym e)
    (λ n. elim (contains-cases y x ys c) [ inl e ↦ absurd (n (sym e)) | inr i ↦ rank-read ys x d i ])

pub rank-apart : (ys : List ℕ) (x y : ℕ) → Contains ys x → Contains ys y → rank ys x ≡ rank ys y → x ≡ y
rank-apart ys x y i j e = sym (rank-read ys x 0 i) ∙ ap (λ k. get_or ys k 0) e ∙ rank-read ys y 0 j

rank-within : (ys : List ℕ) (x : ℕ) → rank ys x ≤ length ys
rank-within [] x = omega arith
rank-within (y ∷ ys) x = by-test (λ (k : ℕ). k ≤ suc (length ys)) (ℕ_discrete x y) (λ _. omega arith) (λ _. omega (arith, rank-within ys x))

rank-enlist : (ys : List ℕ) (x : ℕ) → rank (enlist ys x) x ≡ rank ys x
rank-enlist [] x = by-test (λ (k : ℕ). ◌≡◌ {A = ℕ} k 0) (ℕ_discrete x x) (λ _. refl) (λ n. absurd (n refl))
rank-enlist (y ∷ ys) x =
    elim (ℕ_discrete x y) as (λ d. ite d 0 (suc (rank (ite d ys (enlist ys x)) x)) ≡ ite d 0 (suc (rank ys x)))
    [ yes e ↦ refl | no n ↦ ap suc (rank-enlist ys x) ]

length-enlist : (ys : List ℕ) (x : ℕ) → length (enlist ys x) ≡ max (length ys) (suc (rank ys x))
length-enlist [] x = refl
length-enlist (y ∷ ys) x =
    by-test-both (λ (l : List ℕ) (k : ℕ). suc (length l) ≡ max (suc (length ys)) (suc k)) (ℕ_discrete x y) (λ _. omega arith) (λ _. omega (arith, length-enlist ys x))

-- a number that has a place keeps it
rank-stays : (ys : List ℕ) (x y : ℕ) → rank ys y < length ys → rank (enlist ys x) y ≡ rank ys y
rank-stays [] x y h = absurd (omega arith)
rank-stays (z ∷ ys) x y h =
    by-test (λ (l : List ℕ). rank (z ∷ l) y ≡ rank (z ∷ ys) y) (ℕ_discrete x z) (λ _. refl)
    (λ _. by-test-both (λ (k n : ℕ). n < suc (length ys) → k ≡ n) (ℕ_discrete y z) (λ _ _. refl) (λ _ i. ap suc (rank-stays ys x y (omega arith))) h)

rank-stays-all : (ys xs : List ℕ) (y : ℕ) → rank ys y < length ys → rank (fold enlist ys xs) y ≡ rank ys y
rank-stays-all ys [] y h = refl
rank-stays-all ys (x ∷ xs) y h =
    let e = rank-stays ys x y h in
    rank-stays-all (enlist ys x) xs y (omega (arith, length-enlist ys x)) ∙ e

-- by their places numbers are numbered in the order of their first standing
numbered-from : (ys xs : List ℕ) → Numbered (length ys) (map (rank (fold enlist ys xs)) xs)
numbered-from ys [] = tt
numbered-from ys (x ∷ xs) =
    let zs = enlist ys x in
    let r = rank (fold enlist zs xs) x in
    let long = length-enlist ys x in
    let e : r ≡ rank ys x = rank-stays-all zs xs x (omega (arith, rank-enlist ys x)) ∙ rank-enlist ys x in
    let n : length zs ≡ max (length ys) (suc r) = omega arith in
    (omega (arith, rank-within ys x), subst (λ k. Numbered k (map (rank (fold enlist zs xs)) xs)) n (numbered-from zs xs))

pub firsts-numbered : (xs : List ℕ) → Numbered 0 (map (rank (firsts xs)) xs)
firsts-numbered xs = numbered-from [] xs

-- numbers that are numbered both before and after a function that keeps them apart are not changed by it
module _ (r : ℕ → ℕ) (In : ℕ → Type 0) (apart : (x y : ℕ) → In x → In y → r x ≡ r y → x ≡ y) where
  pub unchanged : (n : ℕ) (xs : List ℕ) → ((y : ℕ) → y < n → In y × (r y ≡ y)) → ((y : ℕ) → Contains xs y → In y) → Numbered n xs → Numbered n (map r xs)
      → (x : ℕ) → Contains xs x → r x ≡ x
  unchanged n [] below inside p q x c = absurd (contains-none x c)
  unchanged n (y ∷ ys) below inside p q x c =
      elim (contains-cases y x ys c) [
        | inl e ↦ subst (λ z. r z ≡ z) e first
        | inr d ↦ unchanged (max n (suc y)) ys more (λ z i. inside z (contains-tail y z ys i)) p.1 (subst (λ z. Numbered (max n (suc z)) (map r ys)) first q.1) x d
      ]
    where
      within : In y
      within = inside y (contains-head y y ys refl)

      first : r y ≡ y
      first = elim (cases_lt y n) [
        | inl lt ↦ (below y lt).1
        | inr le ↦ elim (cases_lt (r y) n) [ inl lt ↦ (let b = below (r y) lt in apart (r y) y b.0 within b.1) | inr ge ↦ omega (arith, p.0, q.0) ]
      ]

      more : (z : ℕ) → z < max n (suc y) → In z × (r z ≡ z)
      more z lt = elim (cases_lt z n) [
        | inl l ↦ below z l
        | inr ge ↦ (let e : y ≡ z = omega (arith, p.0) in (subst In e within, subst (λ k. r k ≡ k) e first))
      ]
