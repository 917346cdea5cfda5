-- Tidying a clause: dropping the literals that the others make needless.
use Rattle.std.specs.Prelude.{ℕ, ◌+◌, ◌<◌, ◌≤◌, List, length, remove}
use Rattle.term.specs.Words.{Word}
use Rattle.clauses.specs.Clauses.{Covers}

-- a clause is tidy if it covers none of what is left of it without one literal
abbrev pub Tidy : List Word → Type 0
Tidy C = (k : ℕ) → k < length C → Covers C (remove C k) → ⊥

-- none of the first literals can be left out
abbrev pub Needed : (hand : ℕ) → List Word → Type 0
Needed hand C = (k : ℕ) → k < hand → k < length C → Covers C (remove C k) → ⊥

-- Tidying goes from the first literal to the last. It drops the literal in hand when the literals still kept cover what
-- is left of them without it. (The literal in hand stands at `hand`.)
pub data Tidies : (hand : ℕ) → List Word → List Word → Type 0 where
  done : {hand : ℕ} {C : List Word} → length C ≤ hand → Tidies hand C C
  drops : {hand : ℕ} {C R : List Word} → hand < length C → Covers C (remove C hand) → Tidies hand (remove C hand) R → Tidies hand C R
  keeps : {hand : ℕ} {C R : List Word} → hand < length C → (Covers C (remove C hand) → ⊥) → Tidies (hand + 1) C R → Tidies hand C R
