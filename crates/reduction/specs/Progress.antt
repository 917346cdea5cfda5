-- How far the tidying of a clause has come.
use Rattle.std.specs.Prelude.{◌≡◌, ℕ, ◌<◌, ◌≤◌, List, ◌++◌, length, drop, slice_index_or, Contains}
use Rattle.term.specs.Words.{Word}
use Rattle.clauses.specs.Clauses.{Covers}
use Rattle.clauses.specs.Reduction.{Needed, Tidies}
use Rattle.subsume.specs.Bits.{bit_at}
use Rattle.subsume.specs.Retracting.{Apart}

-- the literals before i have had their turn; these of them are kept, and the others are gone. The places of `held` are of
-- literals that are kept
pub record Progress (C : List Word) (i : ℕ) (kept : List Word) (held gone : List ℕ) : Type 0 where
  pub within : i ≤ length C
  pub forth : (R : List Word) → Tidies (length kept) (kept ++ drop i C) R → Tidies 0 C R
  pub back : (R : List Word) → Tidies 0 C R → Tidies (length kept) (kept ++ drop i C) R
  pub early : (j : ℕ) (d : Word) → j < i → bit_at gone j ≡ 0 → Contains kept (slice_index_or C j d)
  pub stays : (w : Word) → Contains kept w → (j : ℕ) × (j < i) × (bit_at gone j ≡ 0) × (slice_index_or C j w ≡ w)
  pub late : (j : ℕ) → i ≤ j → bit_at gone j ≡ 0
  pub covered : Covers C (kept ++ drop i C)
  pub needed : Needed (length kept) (kept ++ drop i C)
  pub before : (j : ℕ) → bit_at held j ≡ 1 → j < i
  pub apart : Apart held gone C

-- D covers I, and the literals of I are those of C at some places of the set that are not gone
pub record Image (C D : List Word) (mapped gone : List ℕ) (I : List Word) : Type 0 where
  pub covered : Covers D I
  pub places : (w : Word) → Contains I w → (j : ℕ) × (j < length C) × (bit_at mapped j ≡ 1) × (bit_at gone j ≡ 0) × (slice_index_or C j w ≡ w)
