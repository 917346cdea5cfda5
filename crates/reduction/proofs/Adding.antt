-- A literal more in a compact clause.
use Rattle.std.proofs.Common.{◌≡◌, ℕ, ◌-◌, ◌<◌, ◌≤◌, List, [], ◌∷◌, ◌++◌, length, fold, map, sum_by, sym, refl, ap, ◌∙◌, arith}
use Rattle.std.specs.List.{between}
use Rattle.std.proofs.lemmas.List.{length_push}
use Rattle.std.proofs.lemmas.List.Edits.{length-between}
use Rattle.std.proofs.lemmas.List.Sums.{sum_by-append, sum_by-cons}
use Rattle.bounded.specs.Elems.{elems}
use Rattle.clauses.specs.Clauses.{each}
use Rattle.clauses.specs.Numbering.{enlist, rank}
use Rattle.clauses.proofs.Beginnings.{length-begins}
use Rattle.clauses.proofs.Each.{length-each, size-each}
use Rattle.clauses.proofs.Grown.{sizes-held, each-grown}
use Rattle.term.specs.Coding.{code, decode, word_at, Next}
use Rattle.term.specs.Words.{Word, var, size, sub}
use Rattle.term.specs.declared.node.Node.{Node}
use Rattle.term.specs.declared.walk.WordAt.{WordAt}
use Rattle.term.proofs.Codings.{word-between, length-code}
use Rattle.reduction.specs.declared.compact.Compact.{Compact}
use Rattle.reduction.specs.Compacts.{literals, Added, Refused}
use Rattle.reduction.specs.Numbers.{variables_in, renumbered_node}
use Rattle.reduction.proofs.Nodes.{variables-word, renumbered-code}

module _ (c : Compact) where
  pub length-literals : length (literals c) ≡ length (elems c.starts)
  length-literals = length-each (decode (elems c.nodes)) ∙ sym (ap length c.begun ∙ length-begins 0 (decode (elems c.nodes)))

  pub size-literals : sum_by size (literals c) ≡ length (elems c.nodes)
  size-literals = size-each (decode (elems c.nodes)) ∙ sizes-held (elems c.nodes) c.whole

  module _ (w : WordAt) (end : ℕ) (next : Next w.nodes.now w.start end) where
    abbrev l : Word
    l = word_at w.nodes.now w.start

    -- the nodes of the literal
    nodes-is : between w.start end w.nodes.now ≡ code l
    nodes-is = word-between w.nodes.now w.start end w.whole w.inside next

    size-is : end - w.start ≡ size l
    size-is = sym (length-between w.nodes.now w.start end next.within) ∙ ap length nodes-is ∙ length-code l

    pub numbered-is : (order : List ℕ)
        → map (renumbered_node order) (between w.start end w.nodes.now) ≡ code (sub (λ x. var (rank order x)) l)
    numbered-is order = ap (map (renumbered_node order)) nodes-is ∙ renumbered-code order l

    pub beyond-nodes : (s : List ℕ) → 256 - length (elems c.nodes) < end - w.start → Refused l c s c s
    beyond-nodes s h = record {
      kept = refl;
      seen = refl;
      beyond = λ b. absurd (omega (arith, b.1, sum_by-append size (literals c) (l ∷ []), sum_by-cons size l [], size-literals, size-is));
    }

    pub beyond-starts : (s : List ℕ) (c' : Compact) → literals c' ≡ literals c → length (elems c.starts) ≡ 16 → Refused l c s c' s
    beyond-starts s c' e h = record {
      kept = e;
      seen = refl;
      beyond = λ b. absurd (omega (arith, b.0, length_push (literals c) l, length-literals));
    }

    pub added : (s s' : List ℕ) (c' : Compact) → elems c'.nodes ≡ elems c.nodes ++ map (renumbered_node s') (between w.start end w.nodes.now)
        → s' ≡ fold enlist s (variables_in (between w.start end w.nodes.now)) → length s' ≤ length (elems c'.nodes) → Added l c s c' s'
    added s s' c' e f few = record {
      longer =
          ap (λ (nodes : List Node). each (decode nodes)) (e ∙ ap (λ (nodes : List Node). elems c.nodes ++ nodes) (numbered-is s'))
          ∙ each-grown (elems c.nodes) c.whole _;
      seen = f ∙ ap (fold enlist s) (ap variables_in nodes-is ∙ variables-word l);
      few = few;
    }
