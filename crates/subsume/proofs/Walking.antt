-- A walk along one literal and a target of a clause beside it.
use Rattle.std.proofs.Common.{◌≡◌, ℕ, ◌+◌, ◌<◌, List, length, get_or, Some, None, Option, refl, sym, ap, ◌∙◌, subst, ⊎_elim}
use Rattle.std.proofs.lemmas.Bool.{cases_lt}
use Rattle.std.proofs.lemmas.List.{get_or_past}
use Rattle.term.specs.Coding.{word_at, Next}
use Rattle.term.specs.Matched.{Turns}
use Rattle.term.specs.Words.{Word, sub}
use Rattle.term.specs.declared.node.Node.{Node}
use Rattle.term.specs.declared.node.Node.TheVariants.{Variable}
use Rattle.term.specs.declared.walk.WordAt.{WordAt}
use Rattle.subsume.specs.declared.view.View.{View}
use Rattle.subsume.specs.Meeting.{Abreast, Reached, Advanced}
use Rattle.subsume.proofs.Abreast.{abreast-first, inside, met-here, abreast-on, abreast-never}
use Rattle.subsume.proofs.Links.{variable-at}

-- a place that is there is one of the list's
pub some_inside : (at : List (Option ℕ)) (j q : ℕ) → get_or at j None ≡ Some q → j < length at
some_inside at j q e = ⊎_elim (λ h. h) (λ h. let past = get_or_past at j None h in cc) (cases_lt j (length at))

module _ (u : WordAt) (v : View) (j : ℕ) (h : j < length v.starts.now) where
  abbrev a : List Node
  a = u.nodes.now

  abbrev b : List Node
  b = v.nodes.now

  abbrev i : ℕ
  i = u.start

  abbrev t : ℕ
  t = get_or v.starts.now j 0

  abbrev target : WordAt
  target = record { nodes = v.nodes; start = t; whole = v.whole; inside = v.inside j h }

  pub reached-first : (o : Option ℕ) → o ≡ Some t → Reached a i i b t o
  reached-first o e = subst (Reached a i i b t) (sym e) (abreast-first u target)

  pub reached-last : (p : ℕ) (o : Option ℕ) → Reached a i p b t o → (θ : ℕ → Word) → Turns a i b t θ → (q : ℕ) × (o ≡ Some q)
  reached-last p (Some q) g θ w = (q, refl)
  reached-last p None g θ w = absurd (g θ w)

  module _ (p e : ℕ) (n : Next a i e) (before : p < e) where
    pub reached-inside : (o : Option ℕ) → Reached a i p b t o → (q : ℕ) → o ≡ Some q → q < length b
    reached-inside o g q s = (inside u target p q (subst (Reached a i p b t) s g) e n before).1

    -- a variable here
    pub reached-gives : (x : ℕ) → get_or a p (Variable 0) ≡ Variable x → (o : Option ℕ) → Reached a i p b t o
        → ((q : ℕ) → o ≡ Some q → (q < length b) × ((θ : ℕ → Word) → Turns a i b t θ → θ x ≡ word_at b q)) × (o ≡ None → (θ : ℕ → Word) → Turns a i b t θ → ⊥)
    reached-gives x is o g = (
      λ q s.
          let f : Abreast a b i t p q = subst (Reached a i p b t) s g in
          let m = met-here u target p q f e n before in
          let w = variable-at a p x (inside u target p q f e n before).0 is in
          (m.0, λ θ y. ap (sub θ) (sym w) ∙ m.1 θ y),
      λ s. subst (Reached a i p b t) s g,
    )

    -- one node on
    pub reached-on : (x : Node) → get_or a p (Variable 0) ≡ x → (o r : Option ℕ) → Reached a i p b t o → Advanced x b o r → Reached a i (p + 1) b t r
    reached-on x is None r g s = subst (Reached a i (p + 1) b t) (sym s) g
    reached-on x is (Some q) (Some r) g s = abreast-on u target p q g e n before x is r s
    reached-on x is (Some q) None g s = abreast-never u target p q g e n before x is s
