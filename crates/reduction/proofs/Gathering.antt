-- The literals that choices take, one after the other.
use Rattle.std.proofs.Common.{◌≡◌, ℕ, ◌+◌, ◌<◌, ◌≤◌, List, [], ◌∷◌, ◌++◌, length, get_or, All, Contains, sym, refl, ap, ◌∙◌, subst, ⊎_elim, inl, inr, arith}
use Rattle.std.proofs.lemmas.Bool.{cases_eq}
use Rattle.std.proofs.lemmas.List.{get_or-map, get_or_default, map-append, length-map, length_push}
use Rattle.std.proofs.lemmas.List.Elements.{All-nil, All-push, Contains-append_left, Contains-push, Contains-push_cases}
use Rattle.clauses.specs.Clauses.{literals_at}
use Rattle.clauses.proofs.Parts.{contains-none}
use Rattle.term.specs.Coding.{word_at}
use Rattle.term.specs.Words.{Word, var}
use Rattle.term.specs.declared.node.Node.{Node}
use Rattle.subsume.specs.Bits.{bit_at}
use Rattle.reduction.specs.Tidyings.{Taken}

module _ (nodes : List Node) (S : List ℕ) (choice : ℕ → ℕ) where
  abbrev C : List Word
  C = literals_at nodes S

  -- after the first k choices: where the literals begin that they take, and their places
  pub record Gathered (k : ℕ) (mapped starts : List ℕ) : Type 0 where
    pub few : length starts ≤ k
    pub inside : All (λ s. s < length nodes) starts
    pub all : (x : ℕ) → x < k → Contains (literals_at nodes starts) (get_or C (choice x) (var 0))
    pub only : (w : Word) → Contains (literals_at nodes starts) w → (x : ℕ) × (x < k) × (bit_at mapped (choice x) ≡ 1) × (get_or C (choice x) w ≡ w)
    pub held : (j : ℕ) → bit_at mapped j ≡ 1 → Contains (literals_at nodes starts) (get_or C j (var 0))

  pub gathered-none : (mapped : List ℕ) → ((j : ℕ) → bit_at mapped j ≡ 0) → Gathered 0 mapped []
  gathered-none mapped none = record {
    few = omega arith;
    inside = All-nil (λ s. s < length nodes);
    all = λ x h. absurd (omega arith);
    only = λ w c. absurd (contains-none w c);
    held = λ j b. let z = none j in absurd (omega arith);
  }

  pub gathered-taken : (k : ℕ) (mapped starts : List ℕ) → Gathered k mapped starts → Taken C k choice mapped (literals_at nodes starts)
  gathered-taken k mapped starts g = record { all = g.all; only = g.only }

  module _ (k : ℕ) (mapped starts : List ℕ) (g : Gathered k mapped starts) where
    -- a literal that was taken before
    pub gathered-again : bit_at mapped (choice k) ≡ 1 → Gathered (k + 1) mapped starts
    gathered-again b = record {
      few = omega (arith, g.few);
      inside = g.inside;
      all = λ x h. ⊎_elim (λ (e : x ≡ k). subst (λ y. Contains (literals_at nodes starts) (get_or C (choice y) (var 0))) (sym e) (g.held (choice k) b)) (λ n. g.all x (omega arith)) (cases_eq x k);
      only = λ w c. let s = g.only w c in let l = s.1 in (s.0, omega arith, s.2, s.3);
      held = g.held;
    }

    -- a new one
    module _ (after : List ℕ) (h : choice k < length S) (small : (s : ℕ) → s ≡ get_or S (choice k) 0 → s < length nodes) (here : bit_at after (choice k) ≡ 1) (others : (l : ℕ) → (l ≡ choice k → ⊥) → bit_at after l ≡ bit_at mapped l) where
      abbrev more : List ℕ
      more = starts ++ get_or S (choice k) 0 ∷ []

      word : word_at nodes (get_or S (choice k) 0) ≡ get_or C (choice k) (var 0)
      word = sym (get_or-map (word_at nodes) S (choice k) 0 (var 0) h)

      words : literals_at nodes more ≡ literals_at nodes starts ++ get_or C (choice k) (var 0) ∷ []
      words = map-append (word_at nodes) starts (get_or S (choice k) 0 ∷ []) ∙ ap (λ (w : Word). literals_at nodes starts ++ w ∷ []) word

      keeps : (w : Word) → Contains (literals_at nodes starts) w → Contains (literals_at nodes more) w
      keeps w c = subst (λ (l : List Word). Contains l w) (sym words) (Contains-append_left (literals_at nodes starts) (get_or C (choice k) (var 0) ∷ []) w c)

      new : Contains (literals_at nodes more) (get_or C (choice k) (var 0))
      new = subst (λ (l : List Word). Contains l (get_or C (choice k) (var 0))) (sym words) (Contains-push (literals_at nodes starts) (get_or C (choice k) (var 0)))

      still : (j : ℕ) → bit_at mapped j ≡ 1 → bit_at after j ≡ 1
      still j b = ⊎_elim (λ (e : j ≡ choice k). ap (bit_at after) e ∙ here) (λ n. others j n ∙ b) (cases_eq j (choice k))

      pub gathered-new : Gathered (k + 1) after more
      gathered-new = record {
        few = omega (arith, g.few, length_push starts (get_or S (choice k) 0));
        inside = All-push (λ s. s < length nodes) starts (get_or S (choice k) 0) g.inside (small (get_or S (choice k) 0) refl);
        all = λ x l. ⊎_elim (λ (e : x ≡ k). subst (λ y. Contains (literals_at nodes more) (get_or C (choice y) (var 0))) (sym e) new) (λ n. keeps (get_or C (choice x) (var 0)) (g.all x (omega arith))) (cases_eq x k);
        only = λ w c. elim (Contains-push_cases (literals_at nodes starts) (get_or C (choice k) (var 0)) w (subst (λ (l : List Word). Contains l w) words c)) [
          | inl d ↦ (let s = g.only w d in let l = s.1 in (s.0, omega arith, still (choice s.0) s.2, s.3))
          | inr e ↦ (k, omega arith, here, get_or_default C (choice k) w (var 0) (omega (arith, length-map S (word_at nodes), h)) ∙ e)
        ];
        held = λ j b. ⊎_elim (λ (e : j ≡ choice k). subst (λ y. Contains (literals_at nodes more) (get_or C y (var 0))) (sym e) new) (λ n. keeps (get_or C j (var 0)) (g.held j (sym (others j n) ∙ b))) (cases_eq j (choice k));
      }
