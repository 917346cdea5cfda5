-- What is struck out by marks is taken by no choice that agrees with the table.
use Rattle.std.proofs.Common.{◌≡◌, ℕ, ◌<◌, ◌≤◌, min, List, length, get_or, set, take, sym, ap, ◌∙◌, subst, ⊎_elim, arith}
use Rattle.std.proofs.lemmas.List.{get_or-set_same, get_or-set_other, get_or_read, get_or_default, get_or-take, length-take-le}
use Rattle.std.proofs.lemmas.Bool.{cases_eq}
use Rattle.subsume.specs.declared.bits.BitSet.{BitSet}
use Rattle.subsume.specs.declared.front.Front.{Front}
use Rattle.subsume.specs.declared.slot.Slot.{Slot}
use Rattle.subsume.specs.Bits.{bit_at}
use Rattle.subsume.specs.Choices.{none, row, left, slot_at, labels_of, Fits, Pruned, Shows, Given, Shared, Sifted}

-- an element that was read from a list
pub item : {T : Type 0} (xs ys : List T) (i : ℕ) (x d : T) → xs ≡ ys → i < length xs → x ≡ get_or xs i x → get_or ys i d ≡ x
item xs ys i x d e h is = ap (λ (zs : List _). get_or zs i d) (sym e) ∙ sym (get_or_read xs i x h is d)

pub row-read : (c : List (BitSet 4)) (i : ℕ) (r : BitSet 4) → i < length c → row c i ≡ (get_or c i r).words
row-read c i r h = ap (λ (z : BitSet 4). z.words) (get_or_default c i none r h)

-- the rows of candidates after a change of one
pub row-set_same : (c : List (BitSet 4)) (i : ℕ) (r : BitSet 4) → i < length c → row (set c i r) i ≡ r.words
row-set_same c i r h = ap (λ (z : BitSet 4). z.words) (get_or-set_same c i r none h)

pub row-set_other : (c : List (BitSet 4)) (i k : ℕ) (r : BitSet 4) → (k ≡ i → ⊥) → row (set c i r) k ≡ row c k
row-set_other c i k r n = ap (λ (z : BitSet 4). z.words) (get_or-set_other c i k r none n)

-- marks by the first n labels
module _ (labels : List ℕ) (n : ℕ) (few : n ≤ length labels) where
  pub given-first : (words marks : List ℕ) → Given words (take n labels) (length (take n labels)) marks → Given words labels n marks
  given-first words marks m =
      let long = length-take-le n labels few in
      record {
        shown = λ k h e. subst (Shows marks) (get_or-take n labels k 0 h) (m.shown k (omega (arith, long, h)) e);
        only = λ l b.
            let o = m.only l b in
            let h : o.0 < n = omega (arith, long, o.1) in
            (o.0, h, o.2, sym (get_or-take n labels o.0 0 h) ∙ o.3);
      }

  pub sifted-first : (before after marks : List ℕ) → Sifted before after (take n labels) (length (take n labels)) marks → Sifted before after labels n marks
  sifted-first before after marks s =
      let long = length-take-le n labels few in
      record {
        outside = λ l h. s.outside l (omega (arith, long, h));
        kept = λ i h e f. s.kept i (omega (arith, long, h)) e (subst (λ (l : ℕ). Shows marks l) (sym (get_or-take n labels i 0 h)) f);
        fewer = λ i h e. s.fewer i (omega (arith, long, h)) e;
        marked = λ i h e. subst (Shows marks) (get_or-take n labels i 0 h) (s.marked i (omega (arith, long, h)) e);
      }

module _ {N : ℕ} (fronts : List (Front N)) (slots : List Slot) (m n : ℕ) where
  pub pruned-none : (c : List (BitSet 4)) → Pruned fronts slots m n c c
  pruned-none c = record { keeps = λ f v _ a. a; fewer = λ i j _ _ e. e }

  pub pruned-then : (c d e : List (BitSet 4)) → Pruned fronts slots m n c d → Pruned fronts slots m n d e → Pruned fronts slots m n c e
  pruned-then c d e p q = record { keeps = λ f v fits a. q.keeps f v fits (p.keeps f v fits a); fewer = λ i j h g x. p.fewer i j h g (q.fewer i j h g x) }

  -- a slot of the variable x: its label is what the choice gives x
  module _ (x : ℕ) (slot : Slot) (t : ℕ) (ht : t < length slots) (is : slot_at slots t ≡ slot) (same : slot.variable ≡ x) where
    told : (f v : ℕ → ℕ) → Fits fronts slots f v → v x ≡ get_or (labels_of fronts slot) (f slot.literal) 0
    told f v fits =
        let P : Slot → Type 0 = λ (z : Slot). get_or (labels_of fronts z) (f z.literal) 0 ≡ v z.variable in
        let one : P slot = subst P is (fits t ht) in
        ap v (sym same) ∙ sym one

    pub shared-more : (sets : List (BitSet 4)) (first own before after : List ℕ) → slot.literal < m → row sets slot.literal ≡ first → Given first (labels_of fronts slot) n own
        → length before ≡ length after → length own ≡ length after → ((l : ℕ) → bit_at after l ≡ min (bit_at before l) (bit_at own l))
        → Shared fronts slots m n sets x before → Shared fronts slots m n sets x after
    shared-more sets first own before after inside is-first given size long both shared = λ f v fits a h.
        let o = a slot.literal inside in
        let here : Shows own (v x) = subst (λ (l : ℕ). Shows own l) (sym (told f v fits)) (given.shown (f slot.literal) o.0 (ap (λ (ws : List ℕ). bit_at ws (f slot.literal)) (sym is-first) ∙ o.1)) in
        omega (arith, both (v x), shared f v fits a (omega (arith, size, h)), here (omega (arith, long, h)))

    pub sift-prunes : (start c : List (BitSet 4)) (before marks : List ℕ) (after : BitSet 4) → slot.literal < length c → row c slot.literal ≡ before
        → Shared fronts slots m n start x marks → Pruned fronts slots m n start c → Sifted before after.words (labels_of fronts slot) n marks
        → Pruned fronts slots m n start (set c slot.literal after)
    sift-prunes start c before marks after inside is-before shared so_far sifted =
        let k = slot.literal in
        let c' = set c k after in
        record {
          keeps = λ f v fits a.
              let among = so_far.keeps f v fits a in
              let shown : Shows marks (get_or (labels_of fronts slot) (f k) 0) = subst (λ (l : ℕ). Shows marks l) (told f v fits) (shared f v fits a) in
              λ i h.
              let y = among i h in (
                y.0,
                ⊎_elim
                    (λ (e : i ≡ k).
                    ap (λ (l : ℕ). left c' l (f i)) e
                    ∙ ap (λ (ws : List ℕ). bit_at ws (f i)) (row-set_same c k after inside)
                    ∙ sifted.kept (f i) y.0
                    (ap (λ (ws : List ℕ). bit_at ws (f i)) (sym is-before) ∙ ap (λ (l : ℕ). left c l (f i)) (sym e) ∙ y.1)
                    (subst (λ (l : ℕ). Shows marks (get_or (labels_of fronts slot) (f l) 0)) (sym e) shown))
                    (λ e. ap (λ (ws : List ℕ). bit_at ws (f i)) (row-set_other c k i after e) ∙ y.1)
                    (cases_eq i k),
              );
          fewer = λ i j h g y.
              so_far.fewer i j h g
              (⊎_elim
              (λ (e : i ≡ k).
              ap (λ (l : ℕ). left c l j) e
              ∙ ap (λ (ws : List ℕ). bit_at ws j) is-before
              ∙ sifted.fewer j g (ap (λ (ws : List ℕ). bit_at ws j) (sym (row-set_same c k after inside)) ∙ ap (λ (l : ℕ). left c' l j) (sym e) ∙ y))
              (λ e. ap (λ (ws : List ℕ). bit_at ws j) (sym (row-set_other c k i after e)) ∙ y)
              (cases_eq i k));
        }
