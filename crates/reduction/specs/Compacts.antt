-- What a compact clause means, and how it comes to it.
use Rattle.std.specs.Prelude.{◌≡◌, ℕ, ◌≤◌, List, [], ◌∷◌, ◌++◌, length, fold, Ok, Err, Result, Some, None, Option}
use Rattle.bounded.specs.declared.list.Full.{Full}
use Rattle.bounded.specs.Elems.{elems}
use Rattle.clauses.specs.Clauses.{each}
use Rattle.clauses.specs.Least.{Within}
use Rattle.clauses.specs.Numbering.{enlist, rank, renumbered}
use Rattle.reduction.specs.declared.compact.Compact.{Compact}
use Rattle.term.specs.Coding.{decode}
use Rattle.term.specs.Words.{Word, var, vars, sub}

-- its literals in order
abbrev pub literals : Compact → List Word
literals c = each (decode (elems c.nodes))

-- a literal came last, with the places of its variables among those seen, and these are seen too
pub record Added (l : Word) (c : Compact) (s : List ℕ) (c' : Compact) (s' : List ℕ) : Type 0 where
  pub longer : literals c' ≡ literals c ++ sub (λ x. var (rank s' x)) l ∷ []
  pub seen : s' ≡ fold enlist s (vars l)
  pub few : length s' ≤ length (elems c'.nodes)

-- or it has no room, and nothing changed
pub record Refused (l : Word) (c : Compact) (s : List ℕ) (c' : Compact) (s' : List ℕ) : Type 0 where
  pub kept : literals c' ≡ literals c
  pub seen : s' ≡ s
  pub beyond : Within (literals c ++ l ∷ []) → ⊥

abbrev pub Adds : Word → Compact → List ℕ → Result (Unit {0}) Full → Compact → List ℕ → Type 0
Adds l c s (Ok _) c' s' = Added l c s c' s'
Adds l c s (Err _) c' s' = Refused l c s c' s'

-- the answer is the clause renumbered, or none where the clause is not within the limit
abbrev pub Renumbers : List Word → Option Compact → Type 0
Renumbers C (Some c) = Within C × (literals c ≡ renumbered C)
Renumbers C None = Within C → ⊥
