-- Two literals fit where their first nodes are the same symbol, and then one literal is added.
use Rattle.std.proofs.Common.{◌≡◌, ℕ, ◌-◌, List, [], ◌∷◌, ◌++◌, length, sym, ap, ◌∙◌, arith}
use Rattle.std.proofs.lemmas.List.{append-nil}
use Rattle.std.proofs.lemmas.List.Edits.{length-between}
use Rattle.bounded.specs.Elems.{elems}
use Rattle.clauses.specs.Clauses.{each}
use Rattle.clauses.specs.Joins.{Fit, fit_decided, row}
use Rattle.clauses.proofs.Grown.{each-grown}
use Rattle.term.specs.Coding.{hd, decode, Whole, word_at, Next}
use Rattle.term.specs.Joined.{mean, Inside, Fellows, Joined}
use Rattle.term.specs.Joins.{Table, join}
use Rattle.term.specs.Words.{Word, size}
use Rattle.term.specs.declared.join.Pair.{Pair}
use Rattle.term.specs.declared.node.Node.{Node}
use Rattle.term.specs.declared.node.Node.TheVariants.{Variable, Applied}
use Rattle.term.specs.declared.walk.WordAt.{WordAt}
use Rattle.term.proofs.Cases.{test-yes, test-no}
use Rattle.term.proofs.Codings.{len-first, word-between, length-code}
use Rattle.term.proofs.Walked.{root, root-words, root-whole}
use Rattle.joining.specs.declared.raw.RawClause.{RawClause}
use Rattle.joining.specs.Raw.{literals, Added}

fit-nodes : (x y : Node) (r s : List Node) → Whole (x ∷ r) → Whole (y ∷ s) → Fellows x y → Fit (hd (decode (x ∷ r))) (hd (decode (y ∷ s)))
unfolding decode Whole
fit-nodes (Variable x) y r s v w h = absurd h
fit-nodes (Applied f k) (Variable y) r s v w h = absurd h
fit-nodes (Applied f k) (Applied g l) r s v w h = (h.0, len-first k (decode r) v.0 ∙ h.1 ∙ sym (len-first l (decode s) w.0))

nodes-fit : (x y : Node) (r s : List Node) → Whole (x ∷ r) → Whole (y ∷ s) → Fit (hd (decode (x ∷ r))) (hd (decode (y ∷ s))) → Fellows x y
unfolding decode Whole
nodes-fit (Variable x) y r s v w h = absurd h
nodes-fit (Applied f k) (Variable y) r s v w h = absurd h
nodes-fit (Applied f k) (Applied g l) r s v w h = (h.0, sym (len-first k (decode r) v.0) ∙ h.1 ∙ len-first l (decode s) w.0)

-- a word has the nodes up to where it ends
ended : (w : WordAt) (p : ℕ) → Next w.nodes.now w.start p → p - w.start ≡ size (word_at w.nodes.now w.start)
ended w p n =
    sym (length-between w.nodes.now w.start p n.within)
    ∙ ap length (word-between w.nodes.now w.start p w.whole w.inside n)
    ∙ length-code (word_at w.nodes.now w.start)

module _ (a b : WordAt) where
  abbrev l : Word
  l = word_at a.nodes.now a.start

  abbrev m : Word
  m = word_at b.nodes.now b.start

  row-one : Fellows (root a) (root b) → (T : Table) → row l (m ∷ []) T ≡ ((join l m T).0 ∷ [], (join l m T).1)
  row-one h T =
      test-yes (fit_decided l m) _ _ (rw (root-words a, root-words b) (fit-nodes (root a) (root b) _ _ (root-whole a) (root-whole b) h))

  row-none : ¬ Fellows (root a) (root b) → (T : Table) → row l (m ∷ []) T ≡ ([], T)
  row-none n T =
      test-no (fit_decided l m) _ _ (λ f. n (nodes-fit (root a) (root b) _ _ (root-whole a) (root-whole b) (rw (root-words a, root-words b) at f)))

  module _ (r r' : RawClause) (s s' : List Pair) where
    pub added-one : Fellows (root a) (root b) → (p q : ℕ) → Joined a.nodes.now b.nodes.now a.start b.start p q (elems r.nodes) (elems r'.nodes) s s' → Added a.nodes.now b.nodes.now a.start b.start r r' s s'
    added-one h p q j =
        let T = mean a.nodes.now b.nodes.now s in
        let one = row-one h T in
        let end = ended a p j.left in
        record {
          literals =
              ap (λ (nodes : List Node). each (decode nodes)) j.nodes
              ∙ each-grown (elems r.nodes) r.whole (join l m T).0
              ∙ ap (λ (R : List Word × Table). literals r ++ R.0) (sym one);
          table = j.table ∙ ap (λ (R : List Word × Table). R.1) (sym one);
          known = j.known;
          room = omega (arith, j.room, j.left.later, j.left.within);
          spare = omega (arith, j.spare, j.left.later, j.left.within);
        }

  pub added-none : (r : RawClause) (s : List Pair) → ¬ Fellows (root a) (root b) → Inside a.nodes.now b.nodes.now s → Added a.nodes.now b.nodes.now a.start b.start r r s s
  added-none r s n i =
      let none = row-none n (mean a.nodes.now b.nodes.now s) in
      record {
        literals = sym (append-nil (literals r)) ∙ ap (λ (R : List Word × Table). literals r ++ R.0) (sym none);
        table = ap (λ (R : List Word × Table). R.1) (sym none);
        known = i;
        room = omega arith;
        spare = omega arith;
      }
