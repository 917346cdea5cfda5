-- Tidy clauses that say the same are variants, and variants say the same.
use Rattle.std.proofs.Common.{◌≡◌, ℕ, ◌≤◌, ◌⊎◌, List, length, remove, Contains, inl, inr, sym, refl, ap, ◌∙◌, subst, arith}
use Rattle.std.proofs.Math.Decide.{ℕ_discrete}
use Rattle.std.proofs.lemmas.List.Elements.{All-contains}
use Rattle.term.specs.Words.{Word, var, vars, sub}
use Rattle.term.proofs.Substitutions.{sub-var, sub-sub}
use Rattle.clauses.specs.Clauses.{Covers}
use Rattle.clauses.specs.Reduction.{Tidy}
use Rattle.clauses.specs.Variants.{variables, renamed, Variant}
use Rattle.clauses.specs.Numbering.{firsts}
use Rattle.clauses.proofs.Parts.{All-from, removed-cases, removed-contains, contains-map, map-contains, contains-flat_map, flat_map-contains}
use Rattle.clauses.proofs.Counts.{apart-removed, sum_by-part, ones, partners, onto-apart, found}
use Rattle.clauses.proofs.Firsts.{firsts-have, firsts-only, firsts-apart}
use Rattle.clauses.proofs.Coverings.{takes, covers-through}
use Rattle.clauses.proofs.Smallest.{tidy-once, tidy-apart, tidy-onto, tidy-one-to-one, least-sum}
use Rattle.clauses.proofs.Renamings.{symbols, symbols-sub, sub-same, vars-renamed, name, name-of}

symbols-grow : (θ : ℕ → Word) (u : Word) → symbols u ≤ symbols (sub θ u)
symbols-grow θ u = omega (arith, symbols-sub θ u)

module _ (C D : List Word) (t : Tidy C) (u : Tidy D) (c : Covers C D) (d : Covers D C) where
  -- a literal goes to one with as many symbols
  even : (l : Word) → Contains C l → symbols (sub c.0 l) ≤ symbols l
  even l i =
      let j = takes C D c l i in
      let rest = partners symbols symbols (λ a b. sub c.0 a ≡ b) (λ a b e. subst (λ m. symbols a ≤ symbols m) e (symbols-grow c.0 a))
      (remove C i.0) (remove D j.0) (apart-removed C i.0 (tidy-apart C t))
      (λ a m. let k = removed-contains C i.0 a m in (
        sub c.0 a,
        elim (removed-cases D (sub c.0 l) (sub c.0 a) j (takes C D c a k)) [
          | inl e ↦ absurd (tidy-once C t l i (subst (Contains (remove C i.0)) (sym (tidy-one-to-one C t D c d l a i k e)) m))
          | inr h ↦ h
        ],
        refl,
      ))
      (λ a b m h k p q. tidy-one-to-one C t D c d a b (removed-contains C i.0 a h) (removed-contains C i.0 b k) (p ∙ sym q)) in
      omega (arith, rest, sum_by-part symbols C l i, sum_by-part symbols D (sub c.0 l) j, least-sum D u C d c symbols symbols-grow)

  -- so variables go to variables
  abbrev new : ℕ → ℕ
  new x = name (c.0 x)

  new-is : (l : Word) → Contains C l → sub c.0 l ≡ sub (λ x. var (new x)) l
  new-is l i =
      sub-same c.0 (λ x. var (new x)) l
      (λ x k. name-of (c.0 x) (omega (arith, even l i, symbols-sub c.0 l, sum_by-part (λ x. symbols (c.0 x)) (vars l) x k)))

  new-onto : (m : Word) → Contains D m → (l : Word) × Contains C l × (sub (λ x. var (new x)) l ≡ m)
  unfolding covers-through
  new-onto m k =
      let r = tidy-onto D u (covers-through D C D d c) m k in
      let l = sub d.0 r.0 in
      let i = takes D C d r.0 r.1 in
      (l, i, sym (new-is l i) ∙ sub-sub c.0 d.0 r.0 ∙ r.2)

  -- and onto all of them
  names-onto : (y : ℕ) → Contains (firsts (variables D)) y → (x : ℕ) × Contains (firsts (variables C)) x × (new x ≡ y)
  names-onto y k =
      let m = flat_map-contains vars D y (firsts-only (variables D) y k) in
      let l = new-onto m.0 m.1 in
      let v = map-contains new (vars l.0) y (subst (λ k. Contains k y) (sym (ap vars l.2) ∙ vars-renamed new l.0) m.2) in
      (v.0, firsts-have (variables C) v.0 (contains-flat_map vars C l.0 v.0 l.1 v.1), v.2)

  names-fewer : length (firsts (variables D)) ≤ length (firsts (variables C))
  names-fewer =
      let few = partners (λ _. 1) (λ _. 1) (λ y x. new x ≡ y) (λ _ _ _. omega arith) (firsts (variables D)) (firsts (variables C)) (firsts-apart (variables D)) names-onto (λ y z x _ _ e f. sym e ∙ f) in
      omega (arith, few, ones (firsts (variables D)), ones (firsts (variables C)))

-- tidy clauses that cover each other are variants
pub tidy-variants : (C D : List Word) → Tidy C → Tidy D → Covers C D → Covers D C → Variant C D
tidy-variants C D t u c d =
    let new = new C D t u c d in
    record {
      renaming = new;
      apart = λ x y i j. onto-apart ℕ_discrete new (firsts (variables C)) (firsts (variables D)) (firsts-apart (variables D)) (names-onto C D t u c d)
          (names-fewer D C u t d c) x y (firsts-have (variables C) x i) (firsts-have (variables C) y j);
      same = (
        All-from (Contains D) (renamed new C)
            (λ m i. let r = map-contains (sub (λ x. var (new x))) C m i in subst (Contains D) (new-is C D t u c d r.0 r.1 ∙ r.2) (takes C D c r.0 r.1)),
        All-from (Contains (renamed new C)) D
            (λ m i. let r = new-onto C D t u c d m i in subst (Contains (renamed new C)) r.2 (contains-map (sub (λ x. var (new x))) C r.0 r.1)),
      );
    }

module _ (C D : List Word) (v : Variant C D) where
  pub variant-down : Covers C D
  variant-down = (
    λ x. var (v.renaming x),
    All-from (λ l. Contains D (sub (λ x. var (v.renaming x)) l)) C
        (λ l i. All-contains (Contains D) (renamed v.renaming C) (sub (λ x. var (v.renaming x)) l) v.same.0 (contains-map (sub (λ x. var (v.renaming x))) C l i)),
  )

  -- the variable that was renamed
  before : (y : ℕ) → ((x : ℕ) × Contains (variables C) x × (v.renaming x ≡ y)) ⊎ ((x : ℕ) → Contains (variables C) x → v.renaming x ≡ y → ⊥) → Word
  before y (inl r) = var r.0
  before y (inr n) = var y

  back : ℕ → Word
  back y = before y (found ℕ_discrete v.renaming y (variables C))

  back-again : (x : ℕ) → Contains (variables C) x → back (v.renaming x) ≡ var x
  unfolding back before
  back-again x i = by-found (found ℕ_discrete v.renaming (v.renaming x) (variables C))
    where
      by-found : (f : ((z : ℕ) × Contains (variables C) z × (v.renaming z ≡ v.renaming x)) ⊎ ((z : ℕ) → Contains (variables C) z → v.renaming z ≡ v.renaming x → ⊥)) → before (v.renaming x) f ≡ var x
      by-found (inl r) = ap var (v.apart r.0 x r.1 i r.2)
      by-found (inr n) = absurd (n x i refl)

  home : (l : Word) → Contains C l → sub back (sub (λ x. var (v.renaming x)) l) ≡ l
  home l i =
      sub-sub back (λ x. var (v.renaming x)) l
      ∙ sub-same (λ x. back (v.renaming x)) var l (λ x k. back-again x (contains-flat_map vars C l x i k)) ∙ sub-var l

  pub variant-up : Covers D C
  variant-up = (
    back,
    All-from (λ m. Contains C (sub back m)) D
        (λ m i. let r = map-contains (sub (λ x. var (v.renaming x))) C m (All-contains (Contains (renamed v.renaming C)) D m v.same.1 i) in
        subst (Contains C) (sym (home r.0 r.1) ∙ ap (sub back) r.2) r.1),
  )
