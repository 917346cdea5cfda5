-- Examples that are theorems of the definitions, in one list.
use Rattle.std.specs.Prelude.{◌≡◌, ℕ, List, [], ◌∷◌}
use Rattle.term.specs.declared.node.Symbol.TheVariants.{Function, Positive, Negative}
use Rattle.term.specs.Joins.{join}
use Rattle.term.specs.Words.{Word, var, app, Words, nil, cons}
use Rattle.clauses.specs.Clauses.{Covers}
use Rattle.clauses.specs.Joins.{raw}
use Rattle.record.specs.Reads.{clause_form}
use Rattle.record.specs.Reductions.{Tidying}
use Rattle.witness.specs.Witness.{Witness}

pub data Example : Type 0 where
  -- the first two words join to the third
  words_join : Word → Word → Word → Example
  -- the packed form of the clause is these bytes
  clause_packs : Words → List ℕ → Example
  -- the first clause does not cover the second
  not_covered : List Word → List Word → Example
  -- this list is the witness that the first clause covers the second
  witness_is : Words → Words → List ℕ → Example
  -- tidying leaves the second of the first
  tidies_to : List Word → List Word → Example
  -- the first two clauses join to the third
  joins_to : List Word → List Word → List Word → Example

abbrev pub Holds : Example → Type 0
Holds (words_join u v w) = (join u v []).0 ≡ w
Holds (clause_packs ls bytes) = clause_form ls ≡ bytes
Holds (not_covered c d) = Covers c d → ⊥
Holds (witness_is rule mount list) = Witness rule mount list
Holds (tidies_to c d) = Tidying c d
Holds (joins_to c d e) = Tidying (raw c d) e

abbrev pub Hold : List Example → Type 0
Hold [] = Unit {0}
Hold (e ∷ es) = Holds e × Hold es

-- the constants a and b, the variables X, Y and Z, f over two places and over one, g over one; and the literals h, -h, p, q, r
-- and s over one place, and p over two
abbrev pub a : Word
a = app (Function 1) nil

abbrev pub b : Word
b = app (Function 2) nil

abbrev pub X : Word
X = var 0

abbrev pub Y : Word
Y = var 1

abbrev pub Z : Word
Z = var 2

abbrev f : Word → Word → Word
f u v = app (Function 5) (cons u (cons v nil))

abbrev pub f_one : Word → Word
f_one u = app (Function 5) (cons u nil)

abbrev pub g : Word → Word
g u = app (Function 6) (cons u nil)

abbrev pub h : Word → Word
h u = app (Positive 1) (cons u nil)

abbrev pub not_h : Word → Word
not_h u = app (Negative 1) (cons u nil)

abbrev pub p : Word → Word
p u = app (Positive 1) (cons u nil)

abbrev pub q : Word → Word
q u = app (Positive 2) (cons u nil)

abbrev r : Word → Word
r u = app (Positive 3) (cons u nil)

abbrev s : Word → Word
s u = app (Positive 4) (cons u nil)

abbrev pub p_two : Word → Word → Word
p_two u v = app (Positive 1) (cons u (cons v nil))

abbrev pub examples : List Example
examples =
    -- f(a,a) and f(b,b) join to f(X,X)
    words_join (f a a) (f b b) (f X X)
    -- f(a,b) and f(b,a) join to f(X,Y)
    ∷ words_join (f a b) (f b a) (f X Y)
    -- {p(X), -q(a)} with p 1, q 2 and a 3 is 02 02 01 00 05 01 07 00
    ∷ clause_packs (cons (app (Positive 1) (cons X nil)) (cons (app (Negative 2) (cons (app (Function 3) nil) nil)) nil)) (2 ∷ 2 ∷ 1 ∷ 0 ∷ 5 ∷ 1 ∷ 7 ∷ 0 ∷ [])
    -- {h(X), -h(g(X))} does not cover {h(X), -h(g(g(X)))}
    ∷ not_covered (h X ∷ not_h (g X) ∷ []) (h X ∷ not_h (g (g X)) ∷ [])
    -- the witness of {p(X), q(X)} in {p(b), p(a), q(a)} is 3
    ∷ witness_is (cons (p X) (cons (q X) nil)) (cons (p b) (cons (p a) (cons (q a) nil))) (3 ∷ [])
    -- {p(X), p(a)} tidies to {p(a)}
    ∷ tidies_to (p X ∷ p a ∷ []) (p a ∷ [])
    -- {p(X), p(Y)} tidies to {p(X)}
    ∷ tidies_to (p X ∷ p Y ∷ []) (p X ∷ [])
    -- {p(X, a), p(a, X)} tidies to itself
    ∷ tidies_to (p_two X a ∷ p_two a X ∷ []) (p_two X a ∷ p_two a X ∷ [])
    -- {p(f(a), f(X)), p(f(X), g(a)), q(a)} and {p(f(b), X), p(Y, g(b))} join to {p(f(X), Y), p(Z, g(X))}
    ∷ joins_to
    (p_two (f_one a) (f_one X) ∷ p_two (f_one X) (g a) ∷ q a ∷ [])
    (p_two (f_one b) X ∷ p_two Y (g b) ∷ [])
    (p_two (f_one X) Y ∷ p_two Z (g X) ∷ [])
    -- {q(X), p(a)} and {r(b), s(f(a))} join to the empty clause
    ∷ joins_to (q X ∷ p a ∷ []) (r b ∷ s (f_one a) ∷ []) []
    ∷ []
