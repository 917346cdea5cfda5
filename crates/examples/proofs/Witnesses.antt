-- Why a list is the witness.
use Rattle.std.proofs.Common.{◌≡◌, ℕ, zero, suc, ◌<◌, eqb, List, [], ◌∷◌, get_or, Some, inl, inr, refl, arith}
use Rattle.std.specs.List.{find}
use Rattle.clauses.specs.Clauses.{each}
use Rattle.subsume.specs.FirstChoices.{Chooses, NoLater}
use Rattle.term.specs.Words.{Words, nil, cons}
use Rattle.witness.specs.Witness.{meetings, Witness}
use Rattle.examples.specs.Examples.{a, b, X, p, q}

abbrev rule : Words
rule = cons (p X) (cons (q X) nil)

abbrev mount : Words
mount = cons (p b) (cons (p a) (cons (q a) nil))

-- X has to become a, since q(X) becomes q(a)
first : (other : List ℕ) → Chooses (each rule) (each mount) other → NoLater (1 ∷ 2 ∷ []) other
first [] c = absurd c.1
first (j ∷ []) c = absurd c.1.1
first (j ∷ (k ∷ (l ∷ ls))) c = absurd c.1.1.1
first (suc (suc j) ∷ (k ∷ [])) c = inl (omega arith)
first (zero ∷ (zero ∷ [])) c = cc
first (zero ∷ (suc zero ∷ [])) c = cc
first (zero ∷ (suc (suc zero) ∷ [])) c = cc
first (zero ∷ (suc (suc (suc k)) ∷ [])) c = cc
first (suc zero ∷ (zero ∷ [])) c = cc
first (suc zero ∷ (suc zero ∷ [])) c = cc
first (suc zero ∷ (suc (suc zero) ∷ [])) c = inr (refl, inr (refl, tt))
first (suc zero ∷ (suc (suc (suc k)) ∷ [])) c = inr (refl, inl (omega arith))

here : (x : ℕ) → x < 1 → find (λ p. eqb p.0 x) (meetings (each rule) mount (1 ∷ 2 ∷ [])) ≡ Some (x, get_or (3 ∷ []) x 0)
here zero h = refl
here (suc x) h = absurd (omega arith)

pub at-three : Witness rule mount (3 ∷ [])
at-three = (1 ∷ 2 ∷ [], ((λ _. a, (refl, (refl, tt))), first), refl, here)
