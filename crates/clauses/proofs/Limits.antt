-- The tidied join of two clauses is least over both, and is within the limit exactly if some least clause is.
use Rattle.std.proofs.Common.{◌↔◌, List, All, le_trans, arith}
use Rattle.term.specs.Words.{Word, size}
use Rattle.clauses.specs.Clauses.{Literal, Covers}
use Rattle.clauses.specs.Reduction.{Tidies}
use Rattle.clauses.specs.Joins.{raw}
use Rattle.clauses.specs.Least.{Within, Least}
use Rattle.clauses.specs.Numbering.{renumbered}
use Rattle.clauses.proofs.Coverings.{covers-through}
use Rattle.clauses.proofs.Generalisations.{raw-left, raw-right, raw-least, raw-literals}
use Rattle.clauses.proofs.Numberings.{renumbered-variant, renumbered-literals, length-renumbered, size-renumbered}
use Rattle.clauses.proofs.Reductions.{tidies-tidy, tidies-down, tidies-up, All-tidies, length-tidies, sum_by-tidies, some-tidies}
use Rattle.clauses.proofs.Smallest.{tidy-fewest, tidy-smallest}
use Rattle.clauses.proofs.Variations.{variant-down, variant-up}

module _ (C D : List Word) where
  pub raw_is_least : All Literal C → Least C D (raw C D)
  raw_is_least h = record { literals = raw-literals C D h; left = raw-left C D; right = raw-right C D; below = raw-least C D }

  -- least clauses cover each other
  pub least-covers : (E F : List Word) → Least C D E → Least C D F → Covers E F
  least-covers E F e f = f.below E e.literals e.left e.right

  -- and a clause of literals that says the same is least too
  pub least-same : (E F : List Word) → Least C D E → All Literal F → Covers E F → Covers F E → Least C D F
  least-same E F e h down up = record {
    literals = h;
    left = covers-through F E C up e.left;
    right = covers-through F E D up e.right;
    below = λ G g c d. covers-through G E F (e.below G g c d) down;
  }

  module _ (h : All Literal C) (R : List Word) (t : Tidies 0 (raw C D) R) where
    pub tidied-least : Least C D R
    tidied-least = least-same (raw C D) R (raw_is_least h) (All-tidies Literal t (raw-literals C D h)) (tidies-down t) (tidies-up t)

    pub tidied-within : Within R ↔ ((E : List Word) × Within E × Least C D E)
    tidied-within = (
      λ w. (R, w, tidied-least),
      λ e. (
        le_trans (tidy-fewest R e.0 (tidies-tidy (raw C D) R t) (least-covers R e.0 tidied-least e.2) (least-covers e.0 R e.2 tidied-least)) e.1.0,
        le_trans (tidy-smallest R e.0 (tidies-tidy (raw C D) R t) (least-covers R e.0 tidied-least e.2) (least-covers e.0 R e.2 tidied-least)) e.1.1,
      ),
    )

    -- the same with the variables renumbered
    pub renumbered-least : Least C D (renumbered R)
    renumbered-least =
        let v = renumbered-variant R in
        least-same R (renumbered R) tidied-least (renumbered-literals R tidied-least.literals) (variant-down R (renumbered R) v) (variant-up R (renumbered R) v)

    pub renumbered-within : Within (renumbered R) ↔ ((E : List Word) × Within E × Least C D E)
    renumbered-within =
        let e = length-renumbered R in
        let f = size-renumbered R in
        (λ w. tidied-within.0 (omega arith, omega arith), λ m. let w = tidied-within.1 m in (omega arith, omega arith))

-- tidying keeps the limit
pub tidies-within : (C R : List Word) → Tidies 0 C R → Within C → Within R
tidies-within C R t w = (le_trans (length-tidies t) w.0, le_trans (sum_by-tidies size t) w.1)

-- where what tidying leaves of the join is beyond the limit, no least clause is within it
pub none-within : (C D : List Word) → All Literal C → ((R : List Word) → Tidies 0 (raw C D) R → Within R → ⊥) → (E : List Word) → Within E → Least C D E → ⊥
none-within C D h beyond E w e = some-tidies (raw C D) (λ R t. beyond R t ((tidied-within C D h R t).1 (E, w, e)))
