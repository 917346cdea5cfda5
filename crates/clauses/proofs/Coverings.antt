-- Covering among clauses as a relation.
use Rattle.std.proofs.Common.{ℕ, [], List, All, Contains, get_or, remove, subst, sym}
use Rattle.std.proofs.lemmas.List.Elements.{All-nil, All-contains, All-contains_itself}
use Rattle.term.specs.Words.{Word, var, sub}
use Rattle.term.proofs.Substitutions.{sub-var, sub-sub}
use Rattle.clauses.specs.Clauses.{Covers}
use Rattle.clauses.proofs.Parts.{All-remove}

-- where a substitution takes a literal
pub takes : (C D : List Word) (c : Covers C D) (l : Word) → Contains C l → Contains D (sub c.0 l)
takes C D c l = All-contains (λ m. Contains D (sub c.0 m)) C l c.1

-- a clause whose literals are all in another covers it
pub covers-part : (C D : List Word) → All (Contains D) C → Covers C D
covers-part C D h = (var, λ k d lt. subst (Contains D) (sym (sub-var _)) (h k d lt))

pub covers-itself : (C : List Word) → Covers C C
covers-itself C = covers-part C C (All-contains_itself C)

pub none-covers : (D : List Word) → Covers [] D
none-covers D = covers-part [] D (All-nil (Contains D))

unfoldable pub covers-through : (C D E : List Word) → Covers C D → Covers D E → Covers C E
covers-through C D E c d = (
  λ x. sub d.0 (c.0 x),
  λ k l lt. subst (Contains E) (sub-sub d.0 c.0 (get_or C k l)) (takes D E d (sub c.0 (get_or C k l)) (c.1 k l lt)),
)

-- what is left without one literal covers the whole
pub removed-covers : (C : List Word) (k : ℕ) → Covers (remove C k) C
removed-covers C k = covers-part (remove C k) C (All-remove (Contains C) C k (All-contains_itself C))
