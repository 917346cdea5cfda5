-- Substitutions that turn a clause into a part of itself, and leave for good what they leave.
use Rattle.std.specs.Prelude.{◌≡◌, ℕ, ◌<◌, List, length, slice_index_or, Bool, true, All, Contains, ◌≢◌}
use Rattle.clauses.specs.Clauses.{literals_at}
use Rattle.term.specs.Words.{Word, var, sub}
use Rattle.term.specs.declared.node.Node.{Node}
use Rattle.subsume.specs.Bits.{bit_at}
use Rattle.subsume.specs.FirstChoices.{Outside}
use Rattle.subsume.specs.Meeting.{place_of}
use Rattle.subsume.specs.Solving.{TurnsAt}

-- θ leaves the literals at the places of a set as they are
abbrev pub Stays : (kept : List ℕ) → (C : List Word) → (θ : ℕ → Word) → Type 0
Stays kept C θ = (j : ℕ) → j < length C → bit_at kept j ≡ 1 → sub θ (slice_index_or C j (var 0)) ≡ slice_index_or C j (var 0)

-- each literal of the clause is turned into one at a place that is not gone, what is turned once is turned no further, and
-- the literals at the places that are kept stay as they are
pub record Retracts (kept gone : List ℕ) (C : List Word) (θ : ℕ → Word) : Type 0 where
  pub into : All (λ l. Outside gone C (sub θ l)) C
  pub once : (l : Word) → Contains C l → sub θ (sub θ l) ≡ sub θ l
  pub stays : Stays kept C θ

-- the places of a set are not gone, and no word stands at two of them
pub record Apart (kept gone : List ℕ) (C : List Word) : Type 0 where
  pub here : (j : ℕ) → j < length C → bit_at kept j ≡ 1 → bit_at gone j ≡ 0
  pub once : (j k : ℕ) → j < length C → k < length C → bit_at kept j ≡ 1 → bit_at kept k ≡ 1 → slice_index_or C j (var 0) ≡ slice_index_or C k (var 0) → j ≡ k

-- each such substitution does without the places that are gone after, too; where the answer is no, there is none
abbrev pub Spares : (kept before after : List ℕ) → List Word → (answer : Bool) → Type 0
Spares kept before after C answer = (θ : ℕ → Word) → Retracts kept before C θ → (answer ≡ true) × Retracts kept after C θ

-- each such substitution gives the variable x a word with another label than x itself
abbrev pub Moves : (kept gone : List ℕ) (nodes : List Node) (starts : List ℕ) (x : ℕ) → Type 0
Moves kept gone nodes starts x = (θ : ℕ → Word) → Retracts kept gone (literals_at nodes starts) θ → place_of nodes (θ x) ≢ place_of nodes (var x)

-- where a substitution turns literal i of the one into literal j of the other, it gives the variable x a word with another label
abbrev pub Differs : (N : List Node) (S : List ℕ) (M : List Node) (T : List ℕ) (i x j label : ℕ) → Type 0
Differs N S M T i x j label = (θ : ℕ → Word) → TurnsAt N S M T θ i j → place_of M (θ x) ≢ label
