-- Numbering the variables of nodes, one node after the other.
use Rattle.std.proofs.Common.{◌≡◌, ℕ, ◌+◌, ◌<◌, List, [], ◌∷◌, ◌++◌, length, get_or, drop, map, fold, sym, refl, ap, ap₂, ◌∙◌, append_assoc, append-nil}
use Rattle.std.proofs.lemmas.List.{drop_more, map-append}
use Rattle.std.proofs.lemmas.List.Sums.{fold-append}
use Rattle.clauses.specs.Numbering.{enlist, rank}
use Rattle.term.specs.Coding.{code, codes}
use Rattle.term.specs.Words.{Word, var, app, Words, nil, cons, vars, varss, sub, subs}
use Rattle.term.specs.declared.node.Node.{Node}
use Rattle.term.specs.declared.node.Node.TheVariants.{Variable, Applied}
use Rattle.term.proofs.Substitutions.{len-subs}
use Rattle.reduction.specs.Numbers.{variable_in, variables_in, renumbered_node}
use Rattle.reduction.proofs.Ranks.{rank-kept}

-- one node more
renumbered-kept : (s zs : List ℕ) (node : Node) → renumbered_node (fold enlist (fold enlist s (variable_in node)) zs) node ≡ renumbered_node s node
renumbered-kept s zs (Variable x) = ap Variable (rank-kept s zs x)
renumbered-kept s zs (Applied f k) = refl

module _ (nodes out out' : List Node) (s s' F : List ℕ) (k : ℕ) (h : k < length nodes) where
  abbrev node : Node
  node = get_or nodes k (Variable 0)

  abbrev rest : List Node
  rest = drop (k + 1) nodes

  module _ (seen : s' ≡ fold enlist s (variable_in node)) (all : fold enlist s (variables_in (drop k nodes)) ≡ F) where
    pub variables-more : fold enlist s' (variables_in rest) ≡ F
    variables-more =
        ap (λ (l : List ℕ). fold enlist l (variables_in rest)) seen
        ∙ sym (fold-append enlist s (variable_in node) (variables_in rest))
        ∙ ap (λ (l : List Node). fold enlist s (variables_in l)) (sym (drop_more nodes k (Variable 0) h))
        ∙ all

    pub nodes-more : (r : Node) → r ≡ renumbered_node s node → out' ≡ out ++ r ∷ []
        → out' ++ map (renumbered_node F) rest ≡ out ++ map (renumbered_node F) (drop k nodes)
    nodes-more r is added =
        let last : r ≡ renumbered_node F node =
        is ∙ sym (renumbered-kept s (variables_in rest) node)
        ∙ ap (λ (l : List ℕ). renumbered_node l node) (ap (λ (l : List ℕ). fold enlist l (variables_in rest)) (sym seen) ∙ variables-more) in
        ap (λ (l : List Node). l ++ map (renumbered_node F) rest) (added ∙ ap (λ (n : Node). out ++ n ∷ []) last)
        ∙ append_assoc out (renumbered_node F node ∷ []) (map (renumbered_node F) rest)
        ∙ ap (λ (l : List Node). out ++ map (renumbered_node F) l) (sym (drop_more nodes k (Variable 0) h))

-- the nodes of a word
mutual
  variables-code : (u : Word) (nodes : List Node) → variables_in (code u ++ nodes) ≡ vars u ++ variables_in nodes
  variables-code (var x) nodes = refl
  variables-code (app f us) nodes = variables-codes us nodes

  variables-codes : (us : Words) (nodes : List Node) → variables_in (codes us ++ nodes) ≡ varss us ++ variables_in nodes
  variables-codes nil nodes = refl
  variables-codes (cons u us) nodes =
      ap variables_in (append_assoc (code u) (codes us) nodes)
      ∙ variables-code u (codes us ++ nodes)
      ∙ ap (λ (l : List ℕ). vars u ++ l) (variables-codes us nodes)
      ∙ sym (append_assoc (vars u) (varss us) (variables_in nodes))

pub variables-word : (u : Word) → variables_in (code u) ≡ vars u
variables-word u = ap variables_in (sym (append-nil (code u))) ∙ variables-code u [] ∙ append-nil (vars u)

module _ (order : List ℕ) where
  mutual
    pub renumbered-code : (u : Word) → map (renumbered_node order) (code u) ≡ code (sub (λ x. var (rank order x)) u)
    renumbered-code (var x) = refl
    renumbered-code (app f us) =
        ap₂ (λ (n : ℕ) (l : List Node). Applied f n ∷ l) (sym (len-subs (λ x. var (rank order x)) us)) (renumbered-codes us)

    renumbered-codes : (us : Words) → map (renumbered_node order) (codes us) ≡ codes (subs (λ x. var (rank order x)) us)
    renumbered-codes nil = refl
    renumbered-codes (cons u us) =
        map-append (renumbered_node order) (code u) (codes us) ∙ ap₂ (λ (k l : List Node). k ++ l) (renumbered-code u) (renumbered-codes us)
