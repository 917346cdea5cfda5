-- Variables that are numbered by first standing are fewer than the nodes.
use Rattle.std.proofs.Common.{ℕ, ◌+◌, ◌≤◌, List, [], ◌∷◌, ◌++◌, length, subst, arith}
use Rattle.term.specs.Coding.{code, codes, decode, Whole}
use Rattle.term.specs.Lawful.{Numbered, stood}
use Rattle.term.specs.Matched.{Below}
use Rattle.term.specs.Words.{Word, var, app, Words, nil, cons, size, sizes, vars, varss}
use Rattle.term.specs.declared.node.Node.{Node}
use Rattle.term.specs.declared.node.Node.TheVariants.{Variable, Applied}
use Rattle.term.proofs.Codings.{code-decode}
use Rattle.term.proofs.Laws.{numbered-parts, stood-more}
use Rattle.clauses.specs.Clauses.{each}
use Rattle.clauses.specs.Variants.{variables}
use Rattle.clauses.proofs.Each.{variables-each}
use Rattle.clauses.proofs.Grown.{sizes-held}

below-both : (n : ℕ) (a b : List Node) → Below n a → Below n b → Below n (a ++ b)
unfolding Below
below-both n [] b l r = r
below-both n (Variable x ∷ a) b l r = (l.0, below-both n a b l.1 r)
below-both n (Applied s k ∷ a) b l r = below-both n a b l r

mutual
  unfolding Below

  word-below : (u : Word) (seen n : ℕ) → Numbered seen (vars u) → seen + size u ≤ n → Below n (code u) × (stood seen (vars u) ≤ seen + size u)
  word-below (var x) seen n o h = let l = o.0 in ((omega arith, tt), omega arith)
  word-below (app s us) seen n o h = let b = words-below us seen n o (omega arith) in (b.0, omega (arith, b.1))

  pub words-below : (us : Words) (seen n : ℕ) → Numbered seen (varss us) → seen + sizes us ≤ n → Below n (codes us) × (stood seen (varss us) ≤ seen + sizes us)
  words-below nil seen n o h = (tt, omega arith)
  words-below (cons u us) seen n o h =
      let p = numbered-parts seen (vars u) (varss us) o in
      let b = word-below u seen n p.0 (omega arith) in
      let c = words-below us (stood seen (vars u)) n p.1 (omega (arith, b.1)) in
      (below-both n (code u) (codes us) b.0 c.0, omega (arith, b.1, c.1, stood-more seen (vars u) (varss us)))

-- the nodes of a clause
pub nodes-below : (n : ℕ) (nodes : List Node) → Whole nodes → Numbered 0 (variables (each (decode nodes))) → length nodes ≤ n → Below n nodes
nodes-below n nodes whole o h =
    subst (Below n) (code-decode nodes whole)
    (words-below (decode nodes) 0 n (subst (Numbered 0) (variables-each (decode nodes)) o) (omega (arith, sizes-held nodes whole))).0
