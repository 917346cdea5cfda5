-- The tests of a record's invariant, and what they say.
use Rattle.std.proofs.Common.{◌≡◌, ℕ, true, List, [], ◌∷◌, ◌++◌, sym, refl, ap, ◌∙◌, subst, append-nil}
use Rattle.std.proofs.lemmas.Bool.{and_from, le-leb}
use Rattle.term.specs.Coding.{decode, Whole}
use Rattle.term.specs.Lawful.{Numbered, stood}
use Rattle.term.specs.Words.{Word, var, app, Words, nil, cons, ◌+++◌, len, vars, varss}
use Rattle.term.specs.declared.node.Node.{Node}
use Rattle.term.specs.declared.node.Node.TheVariants.{Variable, Applied}
use Rattle.term.proofs.Laws.{numbered_more, numbered-parts, varss-more, lawful-all}
use Rattle.record.specs.Clauses.{Literal, Literals, variables, whole, clausal}

-- each symbol has all its places
pub whole_from : (nodes : List Node) → Whole nodes → whole nodes ≡ true
unfolding whole Whole
whole_from [] w = refl
whole_from (Variable x ∷ nodes) w = whole_from nodes w
whole_from (Applied s k ∷ nodes) w = and_from _ _ (le-leb k (len (decode nodes)) w.0) (whole_from nodes w.1)

-- the words are literals, and their variables are in order
pub clausal-from : (ls : Words) (seen : ℕ) → Literals ls → Numbered seen (varss ls) → clausal ls seen ≡ true
unfolding clausal
clausal-from nil seen l o = refl
clausal-from (cons (var x) ls) seen l o = absurd l.0
clausal-from (cons (app s us) ls) seen l o =
    let p = numbered-parts seen (varss us) (varss ls) o in
    and_from _ _ (and_from _ _ l.0.0 (le-leb (len us) 8 l.0.1))
    (and_from _ _ (lawful-all us seen p.0 l.0.2) (clausal-from ls (stood seen (varss us)) l.1 p.1))

-- one literal more
pub literals-push : (ls : Words) (l : Word) → Literals ls → Literal l → Literals (ls +++ cons l nil)
literals-push nil l h g = (g, tt)
literals-push (cons k ls) l h g = (h.0, literals-push ls l h.1 g)

pub varss-push : (ls : Words) (l : Word) → varss (ls +++ cons l nil) ≡ varss ls ++ vars l
varss-push ls l = varss-more ls (cons l nil) ∙ ap (λ (xs : List ℕ). varss ls ++ xs) (append-nil (vars l))

pub order-push : (ls : Words) (l : Word) → Numbered 0 (varss ls) → Numbered (variables ls) (vars l) → Numbered 0 (varss (ls +++ cons l nil))
order-push ls l o p = subst (Numbered 0) (sym (varss-push ls l)) (numbered_more 0 (varss ls) (vars l) o p)
