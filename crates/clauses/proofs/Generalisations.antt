-- The raw join of two clauses is least over both.
use Rattle.std.proofs.Common.{◌≡◌, ℕ, ◌*◌, ◌≤◌, List, [], ◌∷◌, ◌++◌, length, All, Contains, sum_by, inl, inr, sym, refl, ap, ◌∙◌, subst, length-append, le_trans, mul_comm, mul-le-mul_right, add-mul, arith}
use Rattle.std.proofs.lemmas.List.Elements.{All-nil, All-cons, All-head, All-tail, All-append, All-contains, Contains-append_left, Contains-append_right, Contains-append_cases}
use Rattle.std.proofs.lemmas.List.Sums.{sum_by-cons, sum_by-append, sum_by-le}
use Rattle.term.specs.Words.{Word, var, app, sub, size}
use Rattle.term.specs.Joins.{Table, alike_decided, join, joins}
use Rattle.term.specs.declared.node.Symbol.{Symbol}
use Rattle.term.proofs.Cases.{by-test}
use Rattle.term.proofs.Substitutions.{size-sub, len-subs}
use Rattle.term.proofs.Tables.{Grown, grown-itself, grown-on, grown-join, left, right, join-sides}
use Rattle.term.proofs.Joinings.{len-joins}
use Rattle.term.proofs.Kept.{joins-narrow}
use Rattle.clauses.specs.Clauses.{Literal, Covers}
use Rattle.clauses.specs.Narrowness.{NarrowOver}
use Rattle.clauses.specs.Joins.{Fit, fit_decided, row, rows, raw}
use Rattle.clauses.proofs.Parts.{All-from, contains-none, contains-head, contains-tail, contains-cases}
use Rattle.clauses.proofs.Coverings.{takes}
use Rattle.clauses.proofs.Literals.{literal-over}
use Rattle.clauses.proofs.Settled.{settled, meets, settled-sub}

-- the table grows
grown-row : (l : Word) (D : List Word) (T : Table) → Grown T (row l D T).1
grown-row l [] T = grown-itself T
grown-row l (m ∷ D) T =
    by-test (λ (r : List Word × Table). Grown T r.1) (fit_decided l m)
    (λ _. grown-on (grown-join l m T) (grown-row l D (join l m T).1)) (λ _. grown-row l D T)

grown-rows : (C D : List Word) (T : Table) → Grown T (rows C D T).1
grown-rows [] D T = grown-itself T
grown-rows (l ∷ C) D T = grown-on (grown-row l D T) (grown-rows C D (row l D T).1)

-- what turns one literal into two turns it into two that fit
fit-from : (θ σ : ℕ → Word) (l : Word) → Literal l → Fit (sub θ l) (sub σ l)
fit-from θ σ (var x) h = absurd h
fit-from θ σ (app s us) h = (refl, len-subs θ us ∙ sym (len-subs σ us))

-- each literal of the join covers one on each side
module _ (U : Table) where
  row-sides : (l : Word) (D : List Word) (T : Table) → Grown (row l D T).1 U → (r : Word) → Contains (row l D T).0 r → (sub (left U) r ≡ l) × Contains D (sub (right U) r)
  row-sides l [] T e r c = absurd (contains-none r c)
  row-sides l (m ∷ D) T e r c =
      by-test (λ (R : List Word × Table). Grown R.1 U → Contains R.0 r → (sub (left U) r ≡ l) × Contains (m ∷ D) (sub (right U) r)) (fit_decided l m)
      (λ _ f d. elim (contains-cases (join l m T).0 r (row l D (join l m T).1).0 d) [
        | inl p ↦
            let s = join-sides U l m T (grown-on (grown-row l D (join l m T).1) f) in
            (ap (sub (left U)) (sym p) ∙ s.0, contains-head m (sub (right U) r) D (sym (ap (sub (right U)) (sym p) ∙ s.1)))
        | inr k ↦ let s = row-sides l D (join l m T).1 f r k in (s.0, contains-tail m (sub (right U) r) D s.1)
      ])
      (λ _ f d. let s = row-sides l D T f r d in (s.0, contains-tail m (sub (right U) r) D s.1)) e c

  rows-sides : (C D : List Word) (T : Table) → Grown (rows C D T).1 U → (r : Word) → Contains (rows C D T).0 r → Contains C (sub (left U) r) × Contains D (sub (right U) r)
  rows-sides [] D T e r c = absurd (contains-none r c)
  rows-sides (l ∷ C) D T e r c =
      elim (Contains-append_cases (row l D T).0 (rows C D (row l D T).1).0 r c) [
        | inl d ↦ let s = row-sides l D T (grown-on (grown-rows C D (row l D T).1) e) r d in (contains-head l (sub (left U) r) C (sym s.0), s.1)
        | inr d ↦ let s = rows-sides C D (row l D T).1 e r d in (contains-tail l (sub (left U) r) C s.0, s.1)
      ]

  -- the join of two literals over some table that U has grown from
  abbrev From : (l m : Word) → List Word → Type 0
  From l m R = (T : Table) × Grown (join l m T).1 U × Contains R (join l m T).0

  -- two literals that fit are joined
  row-all : (l : Word) (D : List Word) (T : Table) → Grown (row l D T).1 U → (m : Word) → Contains D m → Fit l m → From l m (row l D T).0
  row-all l [] T e m c f = absurd (contains-none m c)
  row-all l (k ∷ D) T e m c f =
      by-test (λ (R : List Word × Table). Grown R.1 U → From l m R.0) (fit_decided l k)
      (λ _ g. elim (contains-cases k m D c) [
        | inl p ↦ (
          T,
          subst (λ z. Grown (join l z T).1 U) p (grown-on (grown-row l D (join l k T).1) g),
          contains-head (join l k T).0 (join l m T).0 (row l D (join l k T).1).0 (ap (λ z. (join l z T).0) p),
        )
        | inr d ↦ let i = row-all l D (join l k T).1 g m d f in (i.0, i.1, contains-tail (join l k T).0 (join l m i.0).0 (row l D (join l k T).1).0 i.2)
      ])
      (λ n g. elim (contains-cases k m D c) [ inl p ↦ absurd (n (subst (Fit l) (sym p) f)) | inr d ↦ row-all l D T g m d f ]) e

  rows-all : (C D : List Word) (T : Table) → Grown (rows C D T).1 U → (l m : Word) → Contains C l → Contains D m → Fit l m → From l m (rows C D T).0
  rows-all [] D T e l m c d f = absurd (contains-none l c)
  rows-all (k ∷ C) D T e l m c d f =
      let R = row k D T in
      elim (contains-cases k l C c) [
        | inl p ↦
            let i = row-all k D T (grown-on (grown-rows C D R.1) e) m d (subst (λ z. Fit z m) (sym p) f) in
            subst (λ z. From z m (R.0 ++ (rows C D R.1).0)) p (i.0, i.1, Contains-append_left R.0 (rows C D R.1).0 (join k m i.0).0 i.2)
        | inr n ↦ let i = rows-all C D R.1 e l m n d f in (i.0, i.1, Contains-append_right R.0 (rows C D R.1).0 (join l m i.0).0 i.2)
      ]

module _ (C D : List Word) where
  last : Table
  last = (rows C D []).1

  -- the raw join covers both sides
  pub raw-left : Covers (raw C D) C
  unfolding last
  raw-left = (left last, All-from (λ r. Contains C (sub (left last) r)) (raw C D) (λ r i. (rows-sides last C D [] (grown-itself last) r i).0))

  pub raw-right : Covers (raw C D) D
  unfolding last
  raw-right = (right last, All-from (λ r. Contains D (sub (right last) r)) (raw C D) (λ r i. (rows-sides last C D [] (grown-itself last) r i).1))

  -- and every clause of literals that covers both covers it
  pub raw-least : (E : List Word) → All Literal E → Covers E C → Covers E D → Covers E (raw C D)
  unfolding last
  raw-least E h c d = (
    meets last c.0 d.0,
    All-from (λ l. Contains (raw C D) (sub (meets last c.0 d.0) l)) E
        (λ l i. let f = rows-all last C D [] (grown-itself last) (sub c.0 l) (sub d.0 l) (takes E C c l i) (takes E D d l i) (fit-from c.0 d.0 l (All-contains Literal E l h i)) in
        let p = settled last (sub c.0 l) (sub d.0 l) f.0 f.1 in
        let q = settled-sub last c.0 d.0 l f.0 f.1 in
        subst (Contains (raw C D)) (ap (λ (r : Word × Table). r.0) (sym p ∙ q)) f.2),
  )

-- what the join of two literals that fit takes over from the first, the raw join takes over from the first clause
module _ (P : Word → Type 0) (kept : (l m : Word) (T : Table) → Fit l m → P l → P (join l m T).0) where
  row-kept : (l : Word) (D : List Word) (T : Table) → P l → All P (row l D T).0
  row-kept l [] T h = All-nil P
  row-kept l (m ∷ D) T h =
      by-test (λ (R : List Word × Table). All P R.0) (fit_decided l m)
      (λ f. All-cons P (join l m T).0 (row l D (join l m T).1).0 (kept l m T f h) (row-kept l D (join l m T).1 h)) (λ _. row-kept l D T h)

  rows-kept : (C D : List Word) (T : Table) → All P C → All P (rows C D T).0
  rows-kept [] D T h = All-nil P
  rows-kept (l ∷ C) D T h =
      All-append P (row l D T).0 (rows C D (row l D T).1).0 (row-kept l D T (All-head P l C h)) (rows-kept C D (row l D T).1 (All-tail P l C h))

  pub raw-kept : (C D : List Word) → All P C → All P (raw C D)
  raw-kept C D = rows-kept C D []

join-literal : (l m : Word) (T : Table) → Fit l m → Literal l → Literal (join l m T).0
join-literal (var x) m T f h = absurd f
join-literal (app s us) (var y) T f h = absurd f
join-literal (app s us) (app t vs) T f h =
    by-test (λ (r : Word × Table). Literal r.0) (alike_decided s us t vs) (λ _. literal-over s us (joins us vs T).0 h) (λ n. absurd (n f))

pub raw-literals : (C D : List Word) → All Literal C → All Literal (raw C D)
raw-literals = raw-kept Literal join-literal

join-over : (S : Symbol → Type 0) (l m : Word) (T : Table) → Fit l m → NarrowOver S l → NarrowOver S (join l m T).0
join-over S (var x) m T f n = absurd f
join-over S (app s us) (var y) T f n = absurd f
join-over S (app s us) (app t vs) T f n =
    by-test (λ (r : Word × Table). NarrowOver S r.0) (alike_decided s us t vs)
    (λ a. (n.0, omega (arith, n.1, len-joins us vs T a.1), joins-narrow us vs T n.2)) (λ k. absurd (k f))

pub raw-narrow : (S : Symbol → Type 0) (C D : List Word) → All (NarrowOver S) C → All (NarrowOver S) (raw C D)
raw-narrow S = raw-kept (NarrowOver S) (join-over S)

-- how large it is
length-row : (l : Word) (D : List Word) (T : Table) → length (row l D T).0 ≤ length D
length-row l [] T = omega arith
length-row l (m ∷ D) T =
    by-test (λ (R : List Word × Table). length R.0 ≤ length (m ∷ D)) (fit_decided l m)
    (λ _. omega (arith, length-row l D (join l m T).1)) (λ _. omega (arith, length-row l D T))

length-rows : (C D : List Word) (T : Table) → length (rows C D T).0 ≤ length C * length D
length-rows [] D T = omega arith
length-rows (l ∷ C) D T =
    omega (arith, length-append (row l D T).0 (rows C D (row l D T).1).0, length-row l D T, length-rows C D (row l D T).1)

pub length-raw : (C D : List Word) → length (raw C D) ≤ length C * length D
length-raw C D = length-rows C D []

size-row : (l : Word) (D : List Word) (T : Table) → sum_by size (row l D T).0 ≤ size l * length D
size-row l D T =
    let few = sum_by-le size (size l) (row l D T).0 (All-from (λ r. size r ≤ size l) (row l D T).0
    (λ r i. let s = row-sides (row l D T).1 l D T (grown-itself (row l D T).1) r i in omega (arith, size-sub (left (row l D T).1) r, ap size s.0))) in
    le_trans few (subst (λ n. length (row l D T).0 * size l ≤ n) (mul_comm (length D) (size l)) (mul-le-mul_right (size l) (length-row l D T)))

size-rows : (C D : List Word) (T : Table) → sum_by size (rows C D T).0 ≤ sum_by size C * length D
size-rows [] D T = omega arith
size-rows (l ∷ C) D T =
    omega (
      arith,
      sum_by-append size (row l D T).0 (rows C D (row l D T).1).0,
      size-row l D T,
      size-rows C D (row l D T).1,
      ap (λ n. n * length D) (sum_by-cons size l C),
      add-mul (size l) (sum_by size C) (length D),
    )

pub size-raw : (C D : List Word) → sum_by size (raw C D) ≤ sum_by size C * length D
size-raw C D = size-rows C D []
