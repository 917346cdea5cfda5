-- What a substitution does to the variables and the symbols of a word.
use Rattle.std.proofs.Common.{◌≡◌, ℕ, suc, ◌+◌, List, [], ◌∷◌, ◌++◌, map, Contains, sum_by, sym, refl, ap, ap₂, ◌∙◌, arith}
use Rattle.std.proofs.lemmas.List.Elements.{Contains-append_left, Contains-append_right}
use Rattle.std.proofs.lemmas.List.Sums.{sum_by-append}
use Rattle.term.specs.Words.{Word, var, app, Words, nil, cons, vars, varss, sub, subs}
use Rattle.clauses.specs.Variants.{variables, renamed}
use Rattle.clauses.proofs.Parts.{contains-head}

-- the nodes that are no variables
abbrev mutual
  pub symbols : Word → ℕ
  symbols (var x) = 0
  symbols (app s us) = suc (symbolss us)

  pub symbolss : Words → ℕ
  symbolss nil = 0
  symbolss (cons u us) = symbols u + symbolss us

module _ (θ : ℕ → Word) where
  mutual
    pub symbols-sub : (u : Word) → symbols (sub θ u) ≡ symbols u + sum_by (λ x. symbols (θ x)) (vars u)
    symbols-sub (var x) = omega arith
    symbols-sub (app s us) = omega (arith, symbols-subs us)

    symbols-subs : (us : Words) → symbolss (subs θ us) ≡ symbolss us + sum_by (λ x. symbols (θ x)) (varss us)
    symbols-subs nil = omega arith
    symbols-subs (cons u us) = omega (arith, symbols-sub u, symbols-subs us, sum_by-append (λ x. symbols (θ x)) (vars u) (varss us))

-- only the variables that stand in a word count
module _ (θ σ : ℕ → Word) where
  mutual
    pub sub-same : (u : Word) → ((x : ℕ) → Contains (vars u) x → θ x ≡ σ x) → sub θ u ≡ sub σ u
    sub-same (var x) h = h x (contains-head x x [] refl)
    sub-same (app s us) h = ap (app s) (subs-same us h)

    subs-same : (us : Words) → ((x : ℕ) → Contains (varss us) x → θ x ≡ σ x) → subs θ us ≡ subs σ us
    subs-same nil h = refl
    subs-same (cons u us) h =
        ap₂ cons (sub-same u (λ x c. h x (Contains-append_left (vars u) (varss us) x c))) (subs-same us (λ x c. h x (Contains-append_right (vars u) (varss us) x c)))

-- the variables of a renamed word
module _ (r : ℕ → ℕ) where
  map-append : (xs ys : List ℕ) → map r (xs ++ ys) ≡ map r xs ++ map r ys
  map-append [] ys = refl
  map-append (x ∷ xs) ys = ap (λ (l : List ℕ). r x ∷ l) (map-append xs ys)

  mutual
    pub vars-renamed : (u : Word) → vars (sub (λ x. var (r x)) u) ≡ map r (vars u)
    vars-renamed (var x) = refl
    vars-renamed (app s us) = varss-renamed us

    varss-renamed : (us : Words) → varss (subs (λ x. var (r x)) us) ≡ map r (varss us)
    varss-renamed nil = refl
    varss-renamed (cons u us) = ap₂ (λ (l k : List ℕ). l ++ k) (vars-renamed u) (varss-renamed us) ∙ sym (map-append (vars u) (varss us))

  pub variables-renamed : (C : List Word) → variables (renamed r C) ≡ map r (variables C)
  variables-renamed [] = refl
  variables-renamed (l ∷ C) = ap₂ (λ (l k : List ℕ). l ++ k) (vars-renamed l) (variables-renamed C) ∙ sym (map-append (vars l) (variables C))

-- a word with no symbol is a variable
abbrev pub name : Word → ℕ
name (var x) = x
name (app s us) = 0

pub name-of : (u : Word) → symbols u ≡ 0 → u ≡ var (name u)
name-of (var x) e = refl
name-of (app s us) e = absurd (omega arith)
