-- A word more at the end of nodes.
use Rattle.std.proofs.Common.{◌≡◌, ℕ, List, [], ◌∷◌, ◌++◌, length, sym, refl, ap, ap₂, ◌∙◌, subst, append-nil, zero-add}
use Rattle.clauses.specs.Beginnings.{begins}
use Rattle.clauses.specs.Clauses.{each}
use Rattle.clauses.proofs.Beginnings.{begins-push}
use Rattle.term.specs.Coding.{code, codes, decode, Whole}
use Rattle.term.specs.Words.{Word, Words, nil, cons, ◌+++◌, sizes}
use Rattle.term.specs.declared.node.Node.{Node}
use Rattle.term.proofs.Codings.{code-decode, codes-more, decode-all, length-codes, whole-all}

each-push : (us : Words) (w : Word) → each (us +++ cons w nil) ≡ each us ++ w ∷ []
each-push nil w = refl
each-push (cons u us) w = ap (λ (l : List Word). u ∷ l) (each-push us w)

module _ (nodes : List Node) (whole : Whole nodes) where
  pub sizes-held : sizes (decode nodes) ≡ length nodes
  sizes-held = sym (length-codes (decode nodes)) ∙ ap length (code-decode nodes whole)

  module _ (w : Word) where
    spelt : nodes ++ code w ≡ codes (decode nodes +++ cons w nil)
    spelt = ap₂ ◌++◌ (sym (code-decode nodes whole)) (sym (append-nil (code w))) ∙ sym (codes-more (decode nodes) (cons w nil))

    decode-grown : decode (nodes ++ code w) ≡ decode nodes +++ cons w nil
    decode-grown = ap decode spelt ∙ decode-all (decode nodes +++ cons w nil)

    pub whole-grown : Whole (nodes ++ code w)
    whole-grown = subst Whole (sym spelt) (whole-all (decode nodes +++ cons w nil))

    pub each-grown : each (decode (nodes ++ code w)) ≡ each (decode nodes) ++ w ∷ []
    each-grown = ap each decode-grown ∙ each-push (decode nodes) w

    pub begins-grown : begins 0 (decode (nodes ++ code w)) ≡ begins 0 (decode nodes) ++ length nodes ∷ []
    begins-grown =
        ap (begins 0) decode-grown
        ∙ begins-push 0 (decode nodes) w
        ∙ ap (λ (n : ℕ). begins 0 (decode nodes) ++ n ∷ []) (zero-add (sizes (decode nodes)) ∙ sizes-held)
