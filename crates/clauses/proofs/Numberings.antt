-- What renumbering the variables of a clause does and keeps.
use Rattle.std.proofs.Common.{◌≡◌, ℕ, zero, suc, List, [], ◌∷◌, length, remove, All, Contains, sum_by, sym, refl, ap, ap₂, ◌∙◌, subst, arith}
use Rattle.std.proofs.lemmas.List.{length-map}
use Rattle.std.proofs.lemmas.List.Elements.{All-contains_itself, All-map, Contains-append_left, Contains-append_right}
use Rattle.std.proofs.lemmas.List.Sums.{sum_by-cons}
use Rattle.term.specs.Lawful.{Numbered, Narrow, Narrows}
use Rattle.term.specs.Words.{Word, var, app, Words, nil, cons, size, sizes, vars, sub, subs}
use Rattle.term.specs.declared.node.Symbol.{Symbol}
use Rattle.term.proofs.Substitutions.{sub-var, len-subs}
use Rattle.clauses.specs.Clauses.{Literal, Covers}
use Rattle.clauses.specs.Reduction.{Tidy}
use Rattle.clauses.specs.Variants.{variables, renamed, Variant}
use Rattle.clauses.specs.Numbering.{rank, firsts, renumbered}
use Rattle.clauses.specs.Narrowness.{NarrowOver}
use Rattle.clauses.proofs.Parts.{removed-contains, contains-flat_map, flat_map-contains}
use Rattle.clauses.proofs.Firsts.{firsts-have, rank-apart, firsts-numbered, unchanged}
use Rattle.clauses.proofs.Coverings.{covers-through}
use Rattle.clauses.proofs.Literals.{literal-sub}
use Rattle.clauses.proofs.Renamings.{sub-same, variables-renamed}
use Rattle.clauses.proofs.Variations.{variant-down, variant-up}

-- a function keeps the variables of a clause apart
abbrev KeepsApart : (ℕ → ℕ) → List Word → Type 0
KeepsApart r C = (x y : ℕ) → Contains (variables C) x → Contains (variables C) y → r x ≡ r y → x ≡ y

module _ (r : ℕ → ℕ) where
  renamed-variant : (C : List Word) → KeepsApart r C → Variant C (renamed r C)
  renamed-variant C p = record { renaming = r; apart = p; same = (All-contains_itself (renamed r C), All-contains_itself (renamed r C)) }

  removed-parts : (C : List Word) (k : ℕ) → KeepsApart r C → KeepsApart r (remove C k)
  removed-parts C k p x y i j = p x y (still x i) (still y j)
    where
      still : (x : ℕ) → Contains (variables (remove C k)) x → Contains (variables C) x
      still x i = let l = flat_map-contains vars (remove C k) x i in contains-flat_map vars C l.0 x (removed-contains C k l.0 l.1) l.2

  remove-renamed : (C : List Word) (k : ℕ) → remove (renamed r C) k ≡ renamed r (remove C k)
  remove-renamed [] zero = refl
  remove-renamed [] (suc k) = refl
  remove-renamed (l ∷ C) zero = refl
  remove-renamed (l ∷ C) (suc k) = ap (λ (D : List Word). sub (λ x. var (r x)) l ∷ D) (remove-renamed C k)

  renamed-tidy : (C : List Word) → KeepsApart r C → Tidy C → Tidy (renamed r C)
  renamed-tidy C p t k lt c =
      t k (omega (arith, length-map C (sub (λ x. var (r x)))))
      (covers-through C (renamed r C) (remove C k) (variant-down C (renamed r C) (renamed-variant C p))
      (covers-through (renamed r C) (renamed r (remove C k)) (remove C k) (subst (Covers (renamed r C)) (remove-renamed C k) c)
      (variant-up (remove C k) (renamed r (remove C k)) (renamed-variant (remove C k) (removed-parts C k p)))))

  mutual
    size-renamed : (u : Word) → size (sub (λ x. var (r x)) u) ≡ size u
    size-renamed (var x) = refl
    size-renamed (app s us) = ap suc (sizes-renamed us)

    sizes-renamed : (us : Words) → sizes (subs (λ x. var (r x)) us) ≡ sizes us
    sizes-renamed nil = refl
    sizes-renamed (cons u us) = omega (arith, size-renamed u, sizes-renamed us)

  sum-renamed : (C : List Word) → sum_by size (renamed r C) ≡ sum_by size C
  sum-renamed [] = refl
  sum-renamed (l ∷ C) =
      omega (arith, sum_by-cons size (sub (λ x. var (r x)) l) (renamed r C), sum_by-cons size l C, size-renamed l, sum-renamed C)

  mutual
    narrow-renamed : (u : Word) → Narrow u → Narrow (sub (λ x. var (r x)) u)
    narrow-renamed (var x) n = tt
    narrow-renamed (app s us) n = (n.0, omega (arith, n.1, len-subs (λ x. var (r x)) us), narrows-renamed us n.2)

    narrows-renamed : (us : Words) → Narrows us → Narrows (subs (λ x. var (r x)) us)
    narrows-renamed nil n = tt
    narrows-renamed (cons u us) n = (narrow-renamed u n.0, narrows-renamed us n.1)

  over-renamed : (S : Symbol → Type 0) (l : Word) → NarrowOver S l → NarrowOver S (sub (λ x. var (r x)) l)
  over-renamed S (var x) n = absurd n
  over-renamed S (app s us) n = (n.0, omega (arith, n.1, len-subs (λ x. var (r x)) us), narrows-renamed us n.2)

  -- a renaming that changes no variable changes no literal
  renamed-same : (C : List Word) → ((x : ℕ) → Contains (variables C) x → r x ≡ x) → renamed r C ≡ C
  renamed-same [] h = refl
  renamed-same (l ∷ C) h =
      ap₂ (λ (m : Word) (D : List Word). m ∷ D)
      (sub-same (λ x. var (r x)) var l (λ x i. ap var (h x (Contains-append_left (vars l) (variables C) x i))) ∙ sub-var l)
      (renamed-same C (λ x i. h x (Contains-append_right (vars l) (variables C) x i)))

module _ (C : List Word) where
  abbrev places : ℕ → ℕ
  places = rank (firsts (variables C))

  places-part : KeepsApart places C
  places-part x y i j e = rank-apart (firsts (variables C)) x y (firsts-have (variables C) x i) (firsts-have (variables C) y j) e

  pub renumbered-variant : Variant C (renumbered C)
  renumbered-variant = renamed-variant places C places-part

  pub renumbered-tidy : Tidy C → Tidy (renumbered C)
  renumbered-tidy = renamed-tidy places C places-part

  pub length-renumbered : length (renumbered C) ≡ length C
  length-renumbered = length-map C (sub (λ x. var (places x)))

  pub size-renumbered : sum_by size (renumbered C) ≡ sum_by size C
  size-renumbered = sum-renamed places C

  pub renumbered-literals : All Literal C → All Literal (renumbered C)
  renumbered-literals h = All-map Literal (sub (λ x. var (places x))) C (λ k d lt. literal-sub (λ x. var (places x)) _ (h k d lt))

  pub renumbered-narrow : (S : Symbol → Type 0) → All (NarrowOver S) C → All (NarrowOver S) (renumbered C)
  renumbered-narrow S h = All-map (NarrowOver S) (sub (λ x. var (places x))) C (λ k d lt. over-renamed places S _ (h k d lt))

  pub renumbered-numbered : Numbered 0 (variables (renumbered C))
  renumbered-numbered = subst (Numbered 0) (sym (variables-renamed places C)) (firsts-numbered (variables C))

  -- a clause whose variables are numbered so stays as it is
  pub numbered-renumbered : Numbered 0 (variables C) → renumbered C ≡ C
  numbered-renumbered n =
      renamed-same places C
      (unchanged places (Contains (variables C)) places-part 0 (variables C) (λ y lt. absurd (omega arith)) (λ y i. i) n (firsts-numbered (variables C)))
