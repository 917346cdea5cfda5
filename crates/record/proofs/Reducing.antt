-- A clause that is tidied, within the limit and renumbered, is a record.
use Rattle.std.proofs.Common.{◌≡◌, ◌≢◌, ℕ, suc, ◌<◌, true, false, List, length, get_or, All, AllPairs, sym, refl, ap, ◌∙◌, subst, arith}
use Rattle.std.proofs.lemmas.Bool.{and_from, not_from_false}
use Rattle.std.proofs.lemmas.List.Elements.{All-nil, All-cons, All-head, All-tail}
use Rattle.bounded.specs.Elems.{elems}
use Rattle.clauses.specs.Clauses.{each}
use Rattle.clauses.specs.Least.{Within}
use Rattle.clauses.specs.Narrowness.{NarrowOver}
use Rattle.clauses.specs.Numbering.{renumbered}
use Rattle.clauses.specs.Reduction.{Tidies}
use Rattle.clauses.specs.Variants.{variables}
use Rattle.clauses.proofs.Each.{length-each, size-each, variables-each}
use Rattle.clauses.specs.Joins.{raw}
use Rattle.clauses.proofs.Generalisations.{raw-narrow}
use Rattle.clauses.proofs.Limits.{tidies-within}
use Rattle.clauses.proofs.Numberings.{renumbered-numbered, renumbered-narrow, renumbered-tidy}
use Rattle.clauses.proofs.Reductions.{tidies-tidy, tidies-one, All-tidies, some-tidies}
use Rattle.clauses.proofs.Smallest.{tidy-distinct}
use Rattle.reduction.specs.declared.compact.Compact.{Compact}
use Rattle.reduction.specs.Compacts.{literals as compact_literals}
use Rattle.term.specs.Coding.{decode}
use Rattle.term.specs.Lawful.{Numbered}
use Rattle.term.specs.Words.{Word, var, app, Words, nil, cons, varss}
use Rattle.term.specs.declared.node.Symbol.{Symbol}
use Rattle.record.specs.Clauses.{predicative, Literal, Literals, stands, distinct}
use Rattle.record.specs.declared.clause.Record.{Record}
use Rattle.record.specs.Held.{held}
use Rattle.record.specs.Records.{literals, clause}
use Rattle.record.specs.Reductions.{Beyond}
use Rattle.record.proofs.Kept.{Invariant}
use Rattle.record.proofs.Places.{stands-none, stands-later}
use Rattle.record.proofs.Tests.{whole_from, clausal-from}

-- a narrow literal is one that a record can hold
abbrev Predicate : Symbol → Type 0
Predicate s = predicative s ≡ true

narrow-from : (l : Word) → Literal l → NarrowOver Predicate l
narrow-from (var x) h = h
narrow-from (app s us) h = h

narrow-says : (l : Word) → NarrowOver Predicate l → Literal l
narrow-says (var x) h = h
narrow-says (app s us) h = h

renumbered-literals : (R : List Word) → All Literal R → All Literal (renumbered R)
renumbered-literals R a = λ k d h. narrow-says (get_or (renumbered R) k d) (renumbered-narrow R Predicate (λ k d h. narrow-from (get_or R k d) (a k d h)) k d h)

literals-from : (ls : Words) → All Literal (each ls) → Literals ls
literals-from nil a = tt
literals-from (cons l ls) a = (All-head Literal l (each ls) a, literals-from ls (All-tail Literal l (each ls) a))

-- no literal stands twice
none-stands : (w : Word) (us : Words) → ((j : ℕ) (d : Word) → j < length (each us) → w ≢ get_or (each us) j d) → stands w us ≡ false
none-stands w nil n = stands-none w
none-stands w (cons u us) n = stands-later w u us (n 0 (var 0) (omega arith)) ∙ none-stands w us (λ j d h. n (suc j) d (omega arith))

distinct-from : (us : Words) → AllPairs (λ l m. l ≢ m) (each us) → distinct us ≡ true
unfolding distinct
distinct-from nil p = refl
distinct-from (cons u us) p =
    and_from _ _ (not_from_false (stands u us) (none-stands u us (λ j d h. p 0 (suc j) d (omega arith) (omega arith))))
    (distinct-from us (λ i j d h k. p (suc i) (suc j) d (omega arith) (omega arith)))

module _ (C R : List Word) (narrow : All Literal C) (t : Tidies 0 C R) where
  pub compact-invariant : (c : Compact) → compact_literals c ≡ renumbered R → Invariant (elems c.nodes) (elems c.starts)
  compact-invariant c e =
      let ls = decode (elems c.nodes) in
      let here : All Literal (each ls) = rw e (renumbered-literals R (All-tidies Literal t narrow)) in
      let order : Numbered 0 (varss ls) = subst (Numbered 0) (ap variables (sym e) ∙ variables-each ls) (renumbered-numbered R) in
      record {
        whole-nodes = whole_from (elems c.nodes) c.whole;
        clause = clausal-from ls 0 (literals-from ls here) order;
        apart = distinct-from ls (rw e (tidy-distinct (renumbered R) (renumbered-tidy R (tidies-tidy C R t))));
        begun = c.begun;
      }

  -- what cannot be renumbered within the limit is beyond it
  pub beyond : (Within R → ⊥) → Beyond C
  beyond n S s w = n (subst Within (tidies-one s t) w)

-- what tidying leaves of a clause within the limit is not beyond it
pub not-beyond : (C : List Word) → Within C → Beyond C → ⊥
not-beyond C w b = some-tidies C (λ R t. b R t (tidies-within C R t w))

-- the literals of a record, and of the raw clause of two
each-literals : (ls : Words) → Literals ls → All Literal (each ls)
each-literals nil h = All-nil Literal
each-literals (cons l ls) h = All-cons Literal l (each ls) h.0 (each-literals ls h.1)

pub record-literals : (r : Record) → All Literal (clause r)
record-literals r = each-literals (literals r) (held r).literals

pub raw-literals : (x y : Record) → All Literal (raw (clause x) (clause y))
raw-literals x y =
    let a = record-literals x in
    let n = raw-narrow Predicate (clause x) (clause y) (λ k d h. narrow-from (get_or (clause x) k d) (a k d h)) in
    λ k d h. narrow-says (get_or (raw (clause x) (clause y)) k d) (n k d h)

pub record-within : (r : Record) → Within (clause r)
record-within r = let h = held r in let n = length-each (literals r) in let s = size-each (literals r) in (rw n h.few, rw s h.small)
