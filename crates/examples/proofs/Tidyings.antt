-- What tidying drops and keeps.
use Rattle.std.proofs.Common.{◌≡◌, ℕ, List, [], ◌∷◌, get_or, All, Contains, inl, inr, refl, arith}
use Rattle.std.proofs.lemmas.List.Elements.{All-nil, All-cons}
use Rattle.term.specs.Words.{Word, var, sub}
use Rattle.clauses.specs.Clauses.{Covers}
use Rattle.clauses.specs.Reduction.{Tidies}
use Rattle.clauses.specs.Reduction.Tidies.{done, drops, keeps}
use Rattle.clauses.proofs.Parts.{contains-none, contains-cases}
use Rattle.examples.specs.Examples.{a, X, Y, Z, f_one, g, p, p_two}

contains-only : (l m : Word) → Contains (l ∷ []) m → l ≡ m
contains-only l m c = elim (contains-cases l m [] c) [ inl e ↦ e | inr d ↦ absurd (contains-none m d) ]

-- a substitution takes each literal of C to one of D
abbrev Takes : (ℕ → Word) → (C D : List Word) → Type 0
Takes θ [] D = Unit {0}
Takes θ (l ∷ C) D = Contains D (sub θ l) × Takes θ C D

takes-all : (θ : ℕ → Word) (C D : List Word) → Takes θ C D → All (λ l. Contains D (sub θ l)) C
takes-all θ [] D t = All-nil (λ l. Contains D (sub θ l))
takes-all θ (l ∷ C) D t = All-cons (λ m. Contains D (sub θ m)) l C t.0 (takes-all θ C D t.1)

covers-by : (θ : ℕ → Word) (C D : List Word) → Takes θ C D → Covers C D
covers-by θ C D t = (θ, takes-all θ C D t)

-- no clause with a literal covers the empty one
alone : (l : Word) → Covers (l ∷ []) [] → ⊥
alone l c = contains-none _ (c.1 0 l (omega arith))

one-left : (l : Word) → Tidies 0 (l ∷ []) (l ∷ [])
one-left l = keeps (omega arith) (alone l) (done (omega arith))

-- X becomes the word of the other literal
first-drops : (u : Word) → Covers (p X ∷ p u ∷ []) (p u ∷ []) → Tidies 0 (p X ∷ p u ∷ []) (p u ∷ [])
first-drops u c = drops (omega arith) c (one-left (p u))

pub to-constant : Tidies 0 (p X ∷ p a ∷ []) (p a ∷ [])
to-constant =
    first-drops a
    (covers-by (λ _. a) (p X ∷ p a ∷ []) (p a ∷ []) ((0, omega arith, refl), ((0, omega arith, refl), tt)))

pub to-variable : Tidies 0 (p X ∷ p Y ∷ []) (p Y ∷ [])
to-variable =
    first-drops Y
    (covers-by (λ _. Y) (p X ∷ p Y ∷ []) (p Y ∷ []) ((0, omega arith, refl), ((0, omega arith, refl), tt)))

-- X would have to become a, and a to be X
left-stays : Covers (p_two X a ∷ p_two a X ∷ []) (p_two a X ∷ []) → ⊥
left-stays c = let e = contains-only _ _ (c.1 0 X (omega arith)) in cc

right-stays : Covers (p_two X a ∷ p_two a X ∷ []) (p_two X a ∷ []) → ⊥
right-stays c = let e = contains-only _ _ (c.1 1 X (omega arith)) in cc

pub both-stay : Tidies 0 (p_two X a ∷ p_two a X ∷ []) (p_two X a ∷ p_two a X ∷ [])
both-stay = keeps (omega arith) left-stays (keeps (omega arith) right-stays (done (omega arith)))

-- the four literals of a raw clause, of which the first and the last stay
abbrev pub first : Word
first = p_two (f_one (var 0)) (var 1)

abbrev pub second : Word
second = p_two Z (var 3)

abbrev pub third : Word
third = p_two (f_one (var 4)) (var 5)

abbrev pub last : Word
last = p_two (var 6) (g (var 0))

-- the first would have to become the third, and then the last is none of those left
first-needed : Covers (first ∷ second ∷ third ∷ last ∷ []) (second ∷ third ∷ last ∷ []) → ⊥
first-needed c =
    let θ = c.0 in
    let one = p_two (f_one (θ 0)) (θ 1) in
    let other = p_two (θ 6) (g (θ 0)) in
    elim (contains-cases (second) one (third ∷ last ∷ []) (c.1 0 X (omega arith))) [
      | inl e ↦ cc
      | inr d ↦ elim (contains-cases third one (last ∷ []) d) [
        | inl e ↦ elim (contains-cases (second) other (third ∷ last ∷ []) (c.1 3 X (omega arith))) [
          | inl k ↦ cc
          | inr k ↦ elim (contains-cases third other (last ∷ []) k) [
            | inl l ↦ cc
            | inr l ↦ let m = contains-only last other l in cc
          ]
        ]
        | inr e ↦ let m = contains-only last one e in cc
      ]
    ]

last-needed : Covers (first ∷ last ∷ []) (first ∷ []) → ⊥
last-needed c = let e = contains-only first _ (c.1 1 X (omega arith)) in cc

-- Z becomes f(X), and the variable beside it Y
second-idle : Covers (first ∷ second ∷ third ∷ last ∷ []) (first ∷ third ∷ last ∷ [])
second-idle =
    covers-by (λ x. get_or (X ∷ Y ∷ f_one X ∷ Y ∷ var 4 ∷ var 5 ∷ []) x (var 6))
    (first ∷ second ∷ third ∷ last ∷ []) (first ∷ third ∷ last ∷ [])
    ((0, omega arith, refl), ((0, omega arith, refl), ((1, omega arith, refl), ((2, omega arith, refl), tt))))

third-idle : Covers (first ∷ third ∷ last ∷ []) (first ∷ last ∷ [])
third-idle =
    covers-by (λ x. get_or (X ∷ Y ∷ X ∷ X ∷ X ∷ Y ∷ []) x (var 6))
    (first ∷ third ∷ last ∷ []) (first ∷ last ∷ [])
    ((0, omega arith, refl), ((0, omega arith, refl), ((1, omega arith, refl), tt)))

pub two-stay : Tidies 0 (first ∷ second ∷ third ∷ last ∷ []) (first ∷ last ∷ [])
two-stay =
    keeps (omega arith) first-needed
    (drops (omega arith) second-idle
    (drops (omega arith) third-idle (keeps (omega arith) last-needed (done (omega arith)))))
