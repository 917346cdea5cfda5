-- Choices of a literal of one clause for each literal of another, and the first of them in dictionary order.
use Rattle.std.specs.Prelude.{◌≡◌, ℕ, ◌<◌, List, [], ◌∷◌, length, slice_get, slice_index_or, Some, ◌⊎◌}
use Rattle.std.specs.List.{AllZip}
use Rattle.term.specs.Words.{Word, var, sub}
use Rattle.subsume.specs.Bits.{bit_at}

-- for each literal of the rule the place of a literal of the mount: one substitution turns each into the one that is chosen
abbrev pub Chooses : (rule mount : List Word) → (choice : List ℕ) → Type 0
Chooses rule mount choice = (θ : ℕ → Word) × AllZip (λ l j. slice_get mount j ≡ Some (sub θ l)) rule choice

-- the one list is no later than the other in dictionary order
abbrev pub NoLater : List ℕ → List ℕ → Type 0
NoLater [] ks = Unit {0}
NoLater (j ∷ js) [] = ⊥
NoLater (j ∷ js) (k ∷ ks) = (j < k) ⊎ ((j ≡ k) × NoLater js ks)

-- the first choice that works
abbrev pub FirstChoice : (rule mount : List Word) → (choice : List ℕ) → Type 0
FirstChoice rule mount choice = Chooses rule mount choice × ((other : List ℕ) → Chooses rule mount other → NoLater choice other)

-- w stands in a clause at a place that is not in the set
abbrev pub Outside : (gone : List ℕ) → List Word → Word → Type 0
Outside gone C w = (j : ℕ) × (j < length C) × (bit_at gone j ≡ 0) × (slice_index_or C j w ≡ w)

-- one substitution turns each literal of a clause into the literal of another that is chosen for it, at a place that is not in the set
abbrev pub ChoosesOutside : (gone : List ℕ) → (one other : List Word) → (choice : ℕ → ℕ) → Type 0
ChoosesOutside gone one other choice =
    (θ : ℕ → Word) × ((i : ℕ) → i < length one
    → (choice i < length other) × (bit_at gone (choice i) ≡ 0) × (slice_index_or other (choice i) (var 0) ≡ sub θ (slice_index_or one i (var 0))))
