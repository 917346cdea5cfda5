-- Tidying, literal by literal.
use Rattle.std.specs.Prelude.{◌≡◌, ℕ, ◌+◌, ◌<◌, ◌≤◌, List, ◌++◌, length, drop, slice_index_or, All, Contains, Some, None, Option}
use Rattle.bounded.specs.declared.list.Bounded.{Bounded}
use Rattle.bounded.specs.Elems.{elems}
use Rattle.clauses.specs.Clauses.{literals_at}
use Rattle.clauses.specs.Reduction.{Tidies}
use Rattle.term.specs.Words.{Word, var}
use Rattle.term.specs.declared.node.Node.{Node}
use Rattle.subsume.specs.Bits.{bit_at}
use Rattle.subsume.specs.Choices.{picked}
use Rattle.reduction.specs.declared.tidying.Decided.{Decided}
use Rattle.reduction.specs.declared.tidying.Turn.{Turn}
use Rattle.reduction.specs.declared.tidying.Turn.TheVariants.{On, Full, Shrunk}
use Rattle.reduction.specs.declared.tidying.Outcome.{Outcome}
use Rattle.reduction.specs.declared.tidying.Outcome.TheVariants.{Whole, Full as WasFull, Shrunk as WasShrunk}
use Rattle.reduction.specs.Progress.{Progress, Image}

-- the literals that are kept begin inside so many nodes
abbrev pub Inside : ℕ → Decided → Type 0
Inside n d = All (λ s. s < n) (elems d.kept)

-- the literals that are kept, and the clause in hand
abbrev pub kept : List Node → Decided → List Word
kept nodes d = literals_at nodes (elems d.kept)

abbrev pub in_hand : List Node → List Word → (i : ℕ) → Decided → List Word
in_hand nodes C i d = kept nodes d ++ drop i C

-- the literals before i have had their turn, and the clause in hand was last turned into I
pub record Standing (nodes : List Node) (C : List Word) (mapped : List ℕ) (I : List Word) (i : ℕ) (d : Decided) : Type 0 where
  pub progress : Progress C i (kept nodes d) d.held.words d.gone.words
  pub image : Image C (in_hand nodes C i d) mapped d.gone.words I

-- J has just the literals of C that the first n choices take, at places in the set
pub record Taken (C : List Word) (n : ℕ) (choice : ℕ → ℕ) (mapped : List ℕ) (J : List Word) : Type 0 where
  pub all : (k : ℕ) → k < n → Contains J (slice_index_or C (choice k) (var 0))
  pub only : (w : Word) → Contains J w → (k : ℕ) × (k < n) × (bit_at mapped (choice k) ≡ 1) × (slice_index_or C (choice k) w ≡ w)

-- tidying leaves more than 16 literals
abbrev pub TooMany : List Word → Type 0
TooMany C = (R : List Word) → Tidies 0 C R → 16 < length R

-- after the turn of literal i
abbrev pub Turned : List Node → (C : List Word) → (mapped : List ℕ) → (I : List Word) → (i : ℕ) → {N : ℕ} → Turn N → Decided → Type 0
Turned nodes C mapped I i On d = Standing nodes C mapped I (i + 1) d
Turned nodes C mapped I i Full d = TooMany C
Turned nodes C mapped I i (Shrunk picks) d =
    Progress C (i + 1) (kept nodes d) d.held.words d.gone.words
    × ((next : List ℕ) (J : List Word) → Taken C (length I) (picked picks) next J → Image C (in_hand nodes C (i + 1) d) next d.gone.words J)
    × ((k : ℕ) → k < length I → picked picks k < length C)

-- after a pass from literal `at` on, where I is what the clause was last turned into
abbrev pub Passed : List Node → (C I : List Word) → (at : ℕ) → {N : ℕ} → Outcome N → Decided → Type 0
Passed nodes C I at Whole d = Progress C (length C) (kept nodes d) d.held.words d.gone.words
Passed nodes C I at WasFull d = TooMany C
Passed nodes C I at (WasShrunk next picks) d =
    (at < next) × (next ≤ length C)
    × Progress C next (kept nodes d) d.held.words d.gone.words
    × ((mapped : List ℕ) (J : List Word) → Taken C (length I) (picked picks) mapped J → Image C (in_hand nodes C next d) mapped d.gone.words J)
    × ((k : ℕ) → k < length I → picked picks k < length C)

-- the answer is where the literals begin that tidying leaves; or none, where it leaves more than 16
abbrev pub Leaves : List Node → (C : List Word) → Option (Bounded ℕ 16) → Type 0
Leaves nodes C (Some starts) = Tidies 0 C (literals_at nodes (elems starts)) × All (λ s. s < length nodes) (elems starts)
Leaves nodes C None = TooMany C
