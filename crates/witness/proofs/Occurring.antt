-- The variables of nodes, in written order.
use Rattle.std.proofs.Common.{◌≡◌, ℕ, suc, ◌≤◌, max, List, [], ◌∷◌, ◌++◌, sym, refl, ap, ◌∙◌, append_assoc, append-nil, arith}
use Rattle.term.specs.Coding.{code, codes}
use Rattle.term.specs.Lawful.{stood}
use Rattle.term.specs.Matched.{Below}
use Rattle.term.specs.Words.{Word, var, app, Words, nil, cons, vars, varss}
use Rattle.term.specs.declared.node.Node.{Node}
use Rattle.term.specs.declared.node.Node.TheVariants.{Variable, Applied}

abbrev pub occurring : List Node → List ℕ
occurring [] = []
occurring (Variable x ∷ nodes) = x ∷ occurring nodes
occurring (Applied s k ∷ nodes) = occurring nodes

-- they are those of the words
mutual
  occurring-code : (u : Word) (nodes : List Node) → occurring (code u ++ nodes) ≡ vars u ++ occurring nodes
  occurring-code (var x) nodes = refl
  occurring-code (app s us) nodes = occurring-codes us nodes

  occurring-codes : (us : Words) (nodes : List Node) → occurring (codes us ++ nodes) ≡ varss us ++ occurring nodes
  occurring-codes nil nodes = refl
  occurring-codes (cons u us) nodes =
      ap occurring (append_assoc (code u) (codes us) nodes)
      ∙ occurring-code u (codes us ++ nodes)
      ∙ ap (λ (xs : List ℕ). vars u ++ xs) (occurring-codes us nodes)
      ∙ sym (append_assoc (vars u) (varss us) (occurring nodes))

pub occurring-all : (us : Words) → occurring (codes us) ≡ varss us
occurring-all us = ap occurring (sym (append-nil (codes us))) ∙ occurring-codes us [] ∙ append-nil (varss us)

-- each is below the count of those that have stood
pub le-stood : (n : ℕ) (xs : List ℕ) → n ≤ stood n xs
le-stood n [] = omega arith
le-stood n (x ∷ xs) = omega (arith, le-stood (max n (suc x)) xs)

pub below-stood : (seen : ℕ) (nodes : List Node) → Below (stood seen (occurring nodes)) nodes
unfolding Below
below-stood seen [] = tt
below-stood seen (Variable x ∷ nodes) = (omega (arith, le-stood (max seen (suc x)) (occurring nodes)), below-stood (max seen (suc x)) nodes)
below-stood seen (Applied s k ∷ nodes) = below-stood seen nodes
