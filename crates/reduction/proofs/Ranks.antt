-- The places of numbers in the order of their first standing.
use Rattle.std.proofs.Common.{◌≡◌, ℕ, suc, ◌+◌, eqb, List, [], ◌∷◌, ◌++◌, length, fold, Contains, Some, None, Option, inl, inr, sym, refl, ap, ◌∙◌, subst, arith}
use Rattle.std.specs.List.{position, position_from}
use Rattle.std.proofs.Math.Decide.{ℕ_discrete}
use Rattle.std.proofs.Math.Logic.{ite}
use Rattle.std.proofs.lemmas.Bool.{eqb-true, eqb-false, cond_both}
use Rattle.std.proofs.lemmas.Iterator.Adapters.{position_from-zero}
use Rattle.std.proofs.lemmas.List.Sums.{fold-append}
use Rattle.clauses.specs.Numbering.{enlist, rank}
use Rattle.clauses.proofs.Parts.{contains-none, contains-cases}
use Rattle.term.proofs.Cases.{test-yes, test-no}

-- what is found at k, counted from n, has its place there, and nothing is new; what is not found comes last
abbrev pub Found : (n : ℕ) → List ℕ → ℕ → Option ℕ → Type 0
Found n ys x (Some k) = (k ≡ n + rank ys x) × (enlist ys x ≡ ys)
Found n ys x None = (rank ys x ≡ length ys) × (enlist ys x ≡ ys ++ x ∷ [])

found-first : (n y x : ℕ) (ys : List ℕ) → y ≡ x → Found n (y ∷ ys) x (Some n)
found-first n y x ys e =
    (omega (arith, test-yes (ℕ_discrete x y) 0 (suc (rank ys x)) (sym e)), ap (λ (l : List ℕ). y ∷ l) (test-yes (ℕ_discrete x y) ys (enlist ys x) (sym e)))

found-later : (n y x : ℕ) (ys : List ℕ) → ¬ (y ≡ x) → (r : Option ℕ) → Found (n + 1) ys x r → Found n (y ∷ ys) x r
found-later n y x ys d (Some k) f = (
  omega (arith, f.0, test-no (ℕ_discrete x y) 0 (suc (rank ys x)) (λ e. d (sym e))),
  ap (λ (l : List ℕ). y ∷ l) (test-no (ℕ_discrete x y) ys (enlist ys x) (λ e. d (sym e)) ∙ f.1),
)
found-later n y x ys d None f = (
  omega (arith, f.0, test-no (ℕ_discrete x y) 0 (suc (rank ys x)) (λ e. d (sym e))),
  ap (λ (l : List ℕ). y ∷ l) (test-no (ℕ_discrete x y) ys (enlist ys x) (λ e. d (sym e)) ∙ f.1),
)

found-from : (n : ℕ) (ys : List ℕ) (x : ℕ) → Found n ys x (position_from (λ y. eqb y x) n ys)
found-from n [] x = (refl, refl)
found-from n (y ∷ ys) x =
    cond_both (eqb y x) (Some n) (position_from (λ y. eqb y x) (n + 1) ys) (Found n (y ∷ ys) x)
    (λ e. found-first n y x ys (eqb-true y x e))
    (λ e. found-later n y x ys (eqb-false y x e) _ (found-from (n + 1) ys x))

found : (ys : List ℕ) (x : ℕ) → Found 0 ys x (position (λ y. eqb y x) ys)
found ys x = subst (Found 0 ys x) (sym (position_from-zero (λ y. eqb y x) ys)) (found-from 0 ys x)

module _ (ys zs : List ℕ) (x : ℕ) (same : zs ≡ ys) where
  pub found-some : (k : ℕ) → Some k ≡ position (λ y. eqb y x) zs → (k ≡ rank ys x) × (ys ≡ enlist ys x)
  found-some k e = let f = subst (Found 0 ys x) (ap (position (λ y. eqb y x)) (sym same) ∙ sym e) (found ys x) in (omega (arith, f.0), sym f.1)

  pub found-none : None ≡ position (λ y. eqb y x) zs → (rank ys x ≡ length ys) × (enlist ys x ≡ ys ++ x ∷ [])
  found-none e = subst (Found 0 ys x) (ap (position (λ y. eqb y x)) (sym same) ∙ sym e) (found ys x)

-- numbers other than y
others : ℕ → List ℕ → List ℕ
others y [] = []
others y (x ∷ xs) = ite (ℕ_discrete x y) (others y xs) (x ∷ others y xs)

-- the first number stays the first
first-stays : (y : ℕ) (ys xs : List ℕ) → fold enlist (y ∷ ys) xs ≡ y ∷ fold enlist ys (others y xs)
unfolding others
first-stays y ys [] = refl
first-stays y ys (x ∷ xs) =
    elim (ℕ_discrete x y) as (λ d. fold enlist (y ∷ ite d ys (enlist ys x)) xs ≡ y ∷ fold enlist ys (ite d (others y xs) (x ∷ others y xs)))
    [ yes e ↦ first-stays y ys xs | no n ↦ first-stays y (enlist ys x) xs ]

-- a number that is seen keeps its place
pub rank-kept : (ys xs : List ℕ) (x : ℕ) → rank (fold enlist (enlist ys x) xs) x ≡ rank ys x
rank-kept [] xs x = ap (λ (l : List ℕ). rank l x) (first-stays x [] xs) ∙ test-yes (ℕ_discrete x x) 0 _ refl
rank-kept (y ∷ ys) xs x =
    elim (ℕ_discrete x y) as (λ d. rank (fold enlist (y ∷ ite d ys (enlist ys x)) xs) x ≡ ite d 0 (suc (rank ys x))) [
      | yes e ↦ ap (λ (l : List ℕ). rank l x) (first-stays y ys xs) ∙ test-yes (ℕ_discrete x y) 0 _ e
      | no n ↦ ap (λ (l : List ℕ). rank l x) (first-stays y (enlist ys x) xs) ∙ test-no (ℕ_discrete x y) 0 _ n ∙ ap suc (rank-kept ys (others y xs) x)
    ]

pub ranks-kept : (s xs zs : List ℕ) (x : ℕ) → Contains xs x → rank (fold enlist (fold enlist s xs) zs) x ≡ rank (fold enlist s xs) x
ranks-kept s [] zs x c = absurd (contains-none x c)
ranks-kept s (y ∷ xs) zs x c =
    elim (contains-cases y x xs c) [
      | inl e ↦
          subst (λ y. rank (fold enlist (fold enlist (enlist s y) xs) zs) x ≡ rank (fold enlist (enlist s y) xs) x) (sym e)
          (ap (λ (l : List ℕ). rank l x) (sym (fold-append enlist (enlist s x) xs zs)) ∙ rank-kept s (xs ++ zs) x ∙ sym (rank-kept s xs x))
      | inr d ↦ ranks-kept (enlist s y) xs zs x d
    ]
