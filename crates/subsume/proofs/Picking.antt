-- Choices made one after the other.
use Rattle.std.proofs.Common.{◌≡◌, ℕ, zero, suc, ◌+◌, ◌<◌, ◌≤◌, List, [], ◌∷◌, length, set, Some, None, Option, Bool, not, sym, refl, ap, ◌∙◌, ⊎_elim, arith}
use Rattle.std.proofs.lemmas.List.{get_or-set_same, get_or-set_other}
use Rattle.std.proofs.lemmas.Bool.{cases_eq}
use Rattle.std.specs.List.{filter, enumerate_from}
use Rattle.std.specs.Option.{is_some}
use Rattle.subsume.specs.declared.bits.BitSet.{BitSet}
use Rattle.subsume.specs.declared.front.Front.{Front}
use Rattle.subsume.specs.declared.slot.Slot.{Slot}
use Rattle.subsume.specs.Bits.{bit_at}
use Rattle.subsume.specs.Choices.{left, pick, picked, Fewer, Taken, Picked, Uses, Clear, Chosen, undone}

-- a choice that is made counts no more
pub undone-set : (picks : List (Option ℕ)) (i j : ℕ) → undone (set picks i (Some j)) ≤ undone picks
undone-set [] i j = omega arith
undone-set (None ∷ picks) zero j = omega arith
undone-set (Some k ∷ picks) zero j = omega arith
undone-set (None ∷ picks) (suc i) j = omega (arith, undone-set picks i j)
undone-set (Some k ∷ picks) (suc i) j = undone-set picks i j

pub undone-less : (picks : List (Option ℕ)) (i j : ℕ) → i < length picks → pick picks i ≡ None → undone (set picks i (Some j)) < undone picks
undone-less [] i j h e = absurd (omega arith)
undone-less (None ∷ picks) zero j h e = omega arith
undone-less (Some k ∷ picks) zero j h e = cc
undone-less (None ∷ picks) (suc i) j h e = omega (arith, undone-less picks i j (omega arith) e)
undone-less (Some k ∷ picks) (suc i) j h e = undone-less picks i j (omega arith) e

-- choices and what is left
module _ (m n : ℕ) where
  pub picked-set : (sets : List (BitSet 4)) (picks : List (Option ℕ)) (i j : ℕ) → i < length picks → j < n → Picked sets m n picks → ((k : ℕ) → k < n → left sets i k ≡ 1 → k ≡ j) → Picked sets m n (set picks i (Some j))
  picked-set sets picks i j inside small p only =
      let made = set picks i (Some j) in
      let here : (l x : ℕ) → l ≡ i → pick made l ≡ Some x → j ≡ x = λ l x s e.
      let same : Some j ≡ Some x = sym (ap (pick made) s ∙ get_or-set_same picks i (Some j) None inside) ∙ e in
      cc in
      let there : (l x : ℕ) → (l ≡ i → ⊥) → pick made l ≡ Some x → pick picks l ≡ Some x = λ l x s e. sym (get_or-set_other picks i l (Some j) None s) ∙ e in
      record {
        within = λ l h x e. ⊎_elim (λ (s : l ≡ i). omega (arith, here l x s e)) (λ s. p.within l h x (there l x s e)) (cases_eq l i);
        alone = λ l h x e k b f. ⊎_elim
            (λ (s : l ≡ i). only k b (ap (λ (y : ℕ). left sets y k) (sym s) ∙ f) ∙ here l x s e)
            (λ s. p.alone l h x (there l x s e) k b f)
            (cases_eq l i);
      }

  pub clear-set : (gone : List ℕ) (sets : List (BitSet 4)) (picks : List (Option ℕ)) (i j : ℕ) → i < length picks → bit_at gone j ≡ 0 → Clear gone sets m n picks → Clear gone sets m n (set picks i (Some j))
  clear-set gone sets picks i j inside out c =
      let made = set picks i (Some j) in
      record {
        lefts = c.lefts;
        chosen = λ l h x e. ⊎_elim
            (λ (s : l ≡ i). let z : Some j ≡ Some x = sym (ap (pick made) s ∙ get_or-set_same picks i (Some j) None inside) ∙ e in let y : j ≡ x = cc in ap (bit_at gone) (sym y) ∙ out)
            (λ s. c.chosen l h x (sym (get_or-set_other picks i l (Some j) None s) ∙ e))
            (cases_eq l i);
      }

  pub picked-fewer : (sets after : List (BitSet 4)) (picks : List (Option ℕ)) → Picked sets m n picks → Fewer sets after m n → Picked after m n picks
  picked-fewer sets after picks p f = record { within = p.within; alone = λ l h x e k b g. p.alone l h x e k b (f l k h b g) }

  pub picked-taken : {N : ℕ} (fronts : List (Front N)) (slots : List Slot) (sets after : List (BitSet 4)) (picks : List (Option ℕ)) (i j : ℕ) → i < length picks → j < n → Picked sets m n picks → Taken fronts slots m n sets i j after → Picked after m n (set picks i (Some j))
  picked-taken fronts slots sets after picks i j inside small p t =
      let fewer : Fewer sets t.mid m n = λ l k h b e.
      ⊎_elim
      (λ (s : l ≡ i).
      let there : left t.mid i k ≡ 1 = ap (λ (x : ℕ). left t.mid x k) (sym s) ∙ e in
      let same : k ≡ j = t.narrowed.only k there in
      ap (λ (x : ℕ). left sets x k) s ∙ ap (left sets i) same ∙ sym t.narrowed.here ∙ sym (ap (left t.mid i) same) ∙ there)
      (λ s. ap (λ (ws : List ℕ). bit_at ws k) (sym (t.others l s)) ∙ e)
      (cases_eq l i) in
      picked-fewer t.mid after (set picks i (Some j)) (picked-set t.mid picks i j inside small (picked-fewer sets t.mid picks p fewer) (λ k b. t.narrowed.only k)) t.pruned.fewer

-- the targets that are chosen for one literal more
module _ (picks : List (Option ℕ)) (i : ℕ) (words : List ℕ) (u : Uses picks i words) where
  pub uses-same : pick picks i ≡ None → Uses picks (i + 1) words
  uses-same e = record {
    each = λ l h x s. ⊎_elim (λ (z : l ≡ i). let n : None ≡ Some x = sym e ∙ sym (ap (pick picks) z) ∙ s in cc) (λ n. u.each l (omega (arith, h, n)) x s) (cases_eq l i);
    only = λ x b. let o = u.only x b in (o.0, omega (arith, o.1), o.2);
  }

  pub uses-more : (j : ℕ) (after : List ℕ) → pick picks i ≡ Some j → bit_at after j ≡ 1 → ((l : ℕ) → (l ≡ j → ⊥) → bit_at after l ≡ bit_at words l) → Uses picks (i + 1) after
  uses-more j after e here others = record {
    each = λ l h x s. ⊎_elim
        (λ (z : l ≡ i). let n : Some j ≡ Some x = sym e ∙ sym (ap (pick picks) z) ∙ s in let y : j ≡ x = cc in ap (bit_at after) (sym y) ∙ here)
        (λ n. ⊎_elim (λ (y : x ≡ j). ap (bit_at after) y ∙ here) (λ y. others x y ∙ u.each l (omega (arith, h, n)) x s) (cases_eq x j))
        (cases_eq l i);
    only = λ x b. ⊎_elim
        (λ (y : x ≡ j). (i, omega arith, e ∙ ap Some (sym y)))
        (λ y. let o = u.only x (sym (others x y) ∙ b) in (o.0, omega (arith, o.1), o.2))
        (cases_eq x j);
  }

pub uses-none : (picks : List (Option ℕ)) (words : List ℕ) → ((k : ℕ) → bit_at words k ≡ 0) → Uses picks 0 words
uses-none picks words none = record { each = λ l h x s. absurd (omega arith); only = λ x b. absurd (omega (arith, b, none x)) }

-- whether a choice is still to be made
abbrev pub unmade : ℕ × Option ℕ → Bool
unmade p = not (is_some p.1)

-- where none is, each is made
pub all_made : (picks : List (Option ℕ)) (n i : ℕ) → 0 ≡ length (filter unmade (enumerate_from n picks)) → i < length picks → pick picks i ≡ Some (picked picks i)
all_made [] n i e h = absurd (omega arith)
all_made (None ∷ picks) n i e h = absurd (omega (arith, e))
all_made (Some j ∷ picks) n zero e h = refl
all_made (Some j ∷ picks) n (suc i) e h = all_made picks (n + 1) i e (omega arith)

pub chosen_by : (o : Option ℕ) (m : ℕ) (picks : List (Option ℕ)) → ((i : ℕ) → o ≡ Some i → i < m) → ((i : ℕ) → o ≡ Some i → pick picks i ≡ None) → (o ≡ None → (i : ℕ) → i < m → pick picks i ≡ Some (picked picks i)) → Chosen o m picks
chosen_by (Some i) m picks inside free none = (inside i refl, free i refl)
chosen_by None m picks inside free none = none refl
