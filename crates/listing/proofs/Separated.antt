-- Texts with a comma between two, one after the other.
use Rattle.std.proofs.Common.{◌≡◌, ℕ, suc, ◌+◌, ◌<◌, ◌≤◌, List, [], ◌∷◌, ◌++◌, length, get_or, drop, sym, refl, ap, ◌∙◌, append_assoc, append-nil, add-one}
use Rattle.std.proofs.lemmas.List.{drop_more, drop_all}
use Rattle.term.specs.declared.node.Node.{Node}
use Rattle.term.specs.Coding.{word_at}
use Rattle.record.specs.Reads.{words_from}
use Rattle.clauses.specs.Clauses.{each}
use Rattle.listing.specs.Shown.{separator, separated, shown}

module _ {X : Type 0} (show : X → List ℕ) (xs : List X) (goal : List ℕ) where
  -- the text in place k was added
  pub one_more : (k : ℕ) (d : X) (text text1 text2 : List ℕ) → k < length xs → text ++ separated show k (drop k xs) ≡ goal → text1 ≡ text ++ separator k → text2 ≡ text1 ++ show (get_or xs k d)
      → text2 ++ separated show (k + 1) (drop (k + 1) xs) ≡ goal
  unfolding separated
  one_more k d text text1 text2 h g e f =
      let x = get_or xs k d in
      let rest = separated show (k + 1) (drop (k + 1) xs) in
      let here : separated show k (drop k xs) ≡ separator k ++ (show x ++ rest) = ap (separated show k) (drop_more xs k d h) ∙ ap (λ (n : ℕ). separator k ++ (show x ++ separated show n (drop (k + 1) xs))) (sym (add-one k)) in
      ap (λ (t : List ℕ). t ++ rest) (f ∙ ap (λ (t : List ℕ). t ++ show x) e)
      ∙ append_assoc (text ++ separator k) (show x) rest
      ∙ append_assoc text (separator k) (show x ++ rest)
      ∙ ap (λ (t : List ℕ). text ++ t) (sym here)
      ∙ g

  pub none_left : (k : ℕ) (text : List ℕ) → length xs ≤ k → text ++ separated show k (drop k xs) ≡ goal → text ≡ goal
  unfolding separated
  none_left k text h g = sym (append-nil text) ∙ ap (λ (t : List ℕ). text ++ t) (sym (ap (separated show k) (drop_all k xs h))) ∙ g

-- words by where they begin
pub separated-words : (nodes : List Node) (n : ℕ) (starts : List ℕ) → separated (λ (i : ℕ). shown (word_at nodes i)) n starts ≡ separated shown n (each (words_from nodes starts))
unfolding separated
separated-words nodes n [] = refl
separated-words nodes n (i ∷ is) = ap (λ (t : List ℕ). separator n ++ (shown (word_at nodes i) ++ t)) (separated-words nodes (suc n) is)
