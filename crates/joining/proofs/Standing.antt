-- Literals that stand one after the other.
use Rattle.std.proofs.Common.{◌≡◌, ℕ, zero, suc, ◌+◌, ◌<◌, List, [], ◌∷◌, ◌++◌, length, get_or, drop, sum_by, sym, refl, ap, ap₂, ◌∙◌, append_assoc, append-nil, zero-add, arith, length-append}
use Rattle.std.proofs.lemmas.List.{drop_at, get_or-map}
use Rattle.clauses.specs.Beginnings.{begins}
use Rattle.clauses.specs.Clauses.{each, literals_at}
use Rattle.clauses.proofs.Beginnings.{length-begins}
use Rattle.clauses.proofs.Each.{size-each}
use Rattle.clauses.proofs.Grown.{sizes-held}
use Rattle.term.specs.Coding.{code, codes, hd, decode, Whole, word_at}
use Rattle.term.specs.Words.{Word, var, Words, nil, cons, len, size, sizes}
use Rattle.term.specs.declared.node.Node.{Node}
use Rattle.term.proofs.Codings.{code-decode, decode-code, length-code}

-- the literals that begin there
from-begins : (us : Words) (front rest : List Node) → literals_at (front ++ (codes us ++ rest)) (begins (length front) us) ≡ each us
from-begins nil front rest = refl
from-begins (cons u us) front rest =
    let split : codes (cons u us) ++ rest ≡ code u ++ (codes us ++ rest) = append_assoc (code u) (codes us) rest in
    let here : word_at (front ++ (codes (cons u us) ++ rest)) (length front) ≡ u =
    ap (λ (l : List Node). hd (decode l)) (drop_at front (codes (cons u us) ++ rest) (length front) refl ∙ split) ∙ ap hd (decode-code u (codes us ++ rest)) in
    let all : front ++ (codes (cons u us) ++ rest) ≡ (front ++ code u) ++ (codes us ++ rest) = ap (λ (l : List Node). front ++ l) split ∙ sym (append_assoc front (code u) (codes us ++ rest)) in
    let next : length front + size u ≡ length (front ++ code u) = omega (arith, length-append front (code u), length-code u) in
    ap₂ (λ (v : Word) (l : List Word). v ∷ l) here (ap₂ (λ (l : List Node) (n : ℕ). literals_at l (begins n us)) all next ∙ from-begins us (front ++ code u) rest)

-- what stands from the literal i on is the rest of the nodes
begins-rest : (at : ℕ) (us : Words) (i d : ℕ) → i < len us → get_or (begins at us) i d + sum_by size (drop i (each us)) ≡ at + sizes us
begins-rest at nil i d h = absurd (omega arith)
begins-rest at (cons u us) zero d h = omega (arith, size-each (cons u us))
begins-rest at (cons u us) (suc i) d h = omega (arith, begins-rest (at + size u) us i d (omega arith))

pub literal_at : (nodes : List Node) (starts : List ℕ) (i : ℕ) → i < length starts → word_at nodes (get_or starts i 0) ≡ get_or (literals_at nodes starts) i (var 0)
literal_at nodes starts i h = sym (get_or-map (word_at nodes) starts i 0 (var 0) h)

module _ (nodes : List Node) (whole : Whole nodes) (starts : List ℕ) (begun : starts ≡ begins 0 (decode nodes)) where
  pub literals-begun : literals_at nodes starts ≡ each (decode nodes)
  literals-begun =
      ap₂ (λ (l : List Node) (k : List ℕ). literals_at l k) (sym (append-nil (codes (decode nodes)) ∙ code-decode nodes whole)) begun
      ∙ from-begins (decode nodes) [] []

  pub rest-begun : (i d : ℕ) → i < length starts → get_or starts i d + sum_by size (drop i (literals_at nodes starts)) ≡ length nodes
  rest-begun i d h =
      ap₂ (λ (k : List ℕ) (C : List Word). get_or k i d + sum_by size (drop i C)) begun literals-begun
      ∙ begins-rest 0 (decode nodes) i d (omega (arith, ap length begun, length-begins 0 (decode nodes)))
      ∙ zero-add (sizes (decode nodes)) ∙ sizes-held nodes whole

  pub sum-begun : sum_by size (literals_at nodes starts) ≡ length nodes
  sum-begun = ap (sum_by size) literals-begun ∙ size-each (decode nodes) ∙ sizes-held nodes whole
