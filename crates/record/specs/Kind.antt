-- Records as a kind: the clause that a record means, which clause covers which, and the limit.
use Rattle.std.specs.Prelude.{◌≡◌, List, All, Ok, Err}
use Rattle.std.proofs.Common.{refl}
use Rattle.class.specs.Kinds.{Subject, Laws, Tidied, Joined}
use Rattle.clauses.specs.Clauses.{Literal, Covers}
use Rattle.clauses.specs.Joins.{raw}
use Rattle.clauses.specs.Least.{Within}
use Rattle.clauses.specs.Numbering.{renumbered}
use Rattle.clauses.specs.Reduction.{Tidy, Tidies}
use Rattle.clauses.proofs.Coverings.{covers-itself, covers-through}
use Rattle.clauses.proofs.Each.{length-each, size-each}
use Rattle.clauses.proofs.Limits.{renumbered-least, none-within}
use Rattle.clauses.proofs.Numberings.{renumbered-variant, renumbered-tidy}
use Rattle.clauses.proofs.Reductions.{tidies-tidy, tidies-down, tidies-up}
use Rattle.clauses.proofs.Variations.{variant-down, variant-up}
use Rattle.term.specs.Words.{Word}
use Rattle.record.specs.declared.clause.Record.{Record}
use Rattle.record.specs.Held.{held, all-literals}
use Rattle.record.specs.Records.{literals, clause}
use Rattle.record.specs.Reductions.{Tidying, Joining}

-- a clause of any size: literals, read as a set
abbrev pub AnyClause : Type 0
AnyClause = (C : List Word) × All Literal C

-- the members are all clauses, and a record holds one of at most 16 literals and 256 nodes; it is tidy if tidying would
-- drop no literal; a refused join has the number 11; and tidying and joining leave what their definitions say
abbrev pub records : Subject Record
records = record {
  member = AnyClause;
  above = λ C D. Covers C.0 D.0;
  within = λ C. Within C.0;
  means = λ r. (clause r, all-literals r);
  tidy = λ r. Tidy (clause r);
  refusal = λ _ _. record { number = 11 };
  tidies = λ x y. Tidying (clause x) (clause y);
  joins = Joining;
}

pub laws : Laws records
laws = record {
  itself = λ C. covers-itself C.0;
  through = λ C D E. covers-through C.0 D.0 E.0;
  inside = λ r. let h = held r in let n = length-each (literals r) in let s = size-each (literals r) in (rw n h.few, rw s h.small);
}

-- what tidying leaves, with its variables renumbered
pub tidied : (x y : Record) (R : List Word) → Tidies 0 (clause x) R → clause y ≡ renumbered R → Tidied records x y
tidied x y R t e =
    let v = renumbered-variant R in
    record {
      up = rw e (covers-through (renumbered R) R (clause x) (variant-up R (renumbered R) v) (tidies-up t));
      down = rw e (covers-through (clause x) R (renumbered R) (tidies-down t) (variant-down R (renumbered R) v));
      tidy = rw e (renumbered-tidy R (tidies-tidy (clause x) R t));
      value = (R, t, e);
    }

-- the same of the raw clause of two, which is least over both
pub joined : (x y z : Record) (R : List Word) → Tidies 0 (raw (clause x) (clause y)) R → clause z ≡ renumbered R → Joined records x y (Ok tt) z
joined x y z R t e =
    let l = renumbered-least (clause x) (clause y) (all-literals x) R t in (
      record {
        over = (rw e l.left, (rw e l.right, tt));
        below = λ E o. rw e (l.below E.0 E.1 o.0 o.1.0);
      },
      rw e (renumbered-tidy R (tidies-tidy (raw (clause x) (clause y)) R t)),
      (R, t, e),
    )

-- or beyond the limit
pub refused : (x y : Record) → ((R : List Word) → Tidies 0 (raw (clause x) (clause y)) R → Within R → ⊥) → Joined records x y (Err (record { number = 11 })) x
refused x y beyond = (
  λ h. none-within (clause x) (clause y) (all-literals x) beyond h.0.0 h.1
      (record { literals = h.0.1; left = h.2.over.0; right = h.2.over.1.0; below = λ F g c d. h.2.below (F, g) (c, (d, tt)) }),
  refl,
  refl,
  (beyond, refl, refl),
)
