-- Marks and candidates, bit by bit of a word, and word by word.
use Rattle.std.proofs.Common.{◌≡◌, ℕ, ◌+◌, ◌-◌, ◌*◌, ◌/◌, ◌<◌, ◌≤◌, min, List, length, get_or, set, take, drop, ◌⊎◌, ◌≢◌, inl, inr, sym, ap, ◌∙◌, subst, ⊎_elim, arith}
use Rattle.std.specs.Int.{bit_at as bit}
use Rattle.std.proofs.lemmas.List.{get_or-drop, take_all, length-drop, get_or-set_same}
use Rattle.std.proofs.lemmas.Bool.{cases_eq, cases_lt}
use Rattle.subsume.specs.Bits.{bit_at, Parted}
use Rattle.subsume.specs.Choices.{Shows, Given, Sifted}
use Rattle.subsume.proofs.Sets.{bit-of_word, other-word}

module _ (labels : List ℕ) (word : ℕ) where
  -- of the targets of one word, all but the rest are marked
  abbrev pub Half : (rest : ℕ) → (marks : List ℕ) → Type 0
  Half rest marks = (k : ℕ) → k < length labels → bit word k ≡ 1 → (bit rest k ≡ 1) ⊎ Shows marks (get_or labels k 0)

  -- a mark stood before, or a target of the word gives it
  abbrev pub Told : (start marks : List ℕ) → Type 0
  Told start marks = (l : ℕ) → bit_at marks l ≡ 1 → (bit_at start l ≡ 1) ⊎ ((k : ℕ) × (k < 64) × (k < length labels) × (bit word k ≡ 1) × (get_or labels k 0 ≡ l))

  pub half-on : (rest k others : ℕ) (marks after : List ℕ) → Parted rest k others → ((l : ℕ) → Shows marks l → Shows after l) → Shows after (get_or labels k 0) → Half rest marks → Half others after
  half-on rest k others marks after p more here half m inside left =
      ⊎_elim
      (λ (b : bit rest m ≡ 1).
      ⊎_elim
      (λ (e : m ≡ k). inr (subst (λ (x : ℕ). Shows after (get_or labels x 0)) (sym e) here))
      (λ n. inl (p.others m n ∙ b))
      (cases_eq m k))
      (λ s. inr (more (get_or labels m 0) s))
      (half m inside left)

-- of the targets of one word, all but the rest are sifted by the marks of their labels
pub record Sieved (labels : List ℕ) (word : ℕ) (marks : List ℕ) (rest kept : ℕ) : Type 0 where
  pub held : (k : ℕ) → k < length labels → bit word k ≡ 1 → Shows marks (get_or labels k 0) → bit kept k ≡ 1
  pub fewer : (k : ℕ) → bit kept k ≡ 1 → bit word k ≡ 1
  pub marked : (k : ℕ) → k < length labels → bit kept k ≡ 1 → (bit rest k ≡ 1) ⊎ Shows marks (get_or labels k 0)
  pub outside : (k : ℕ) → length labels ≤ k → bit kept k ≡ bit word k

module _ (labels : List ℕ) (word : ℕ) (marks : List ℕ) (rest k others kept : ℕ) (p : Parted rest k others) (inside : k < length labels) (s : Sieved labels word marks rest kept) where
  -- the target stays
  pub sieved-stays : (after : ℕ) → Shows marks (get_or labels k 0) → ((l : ℕ) → bit after l ≡ bit kept l) → Sieved labels word marks others after
  sieved-stays after shown same = record {
    held = λ l h b m. same l ∙ s.held l h b m;
    fewer = λ l b. s.fewer l (sym (same l) ∙ b);
    marked = λ l h b. ⊎_elim
        (λ (e : l ≡ k). inr (subst (λ (x : ℕ). Shows marks (get_or labels x 0)) (sym e) shown))
        (λ n. ⊎_elim (λ r. inl (p.others l n ∙ r)) (λ m. inr m) (s.marked l h (sym (same l) ∙ b)))
        (cases_eq l k);
    outside = λ l h. same l ∙ s.outside l h;
  }

  -- the target is struck out
  pub sieved-goes : (after : ℕ) → (Shows marks (get_or labels k 0) → ⊥) → bit after k ≡ 0 → ((l : ℕ) → l ≢ k → bit after l ≡ bit kept l) → Sieved labels word marks others after
  sieved-goes after unmarked here same =
      let apart : (l : ℕ) → bit after l ≡ 1 → l ≢ k = λ l b e. omega (arith, b, ap (bit after) e, here) in
      record {
        held = λ l h b m. ⊎_elim
            (λ (e : l ≡ k). absurd (unmarked (subst (λ (x : ℕ). Shows marks (get_or labels x 0)) e m)))
            (λ n. same l n ∙ s.held l h b m)
            (cases_eq l k);
        fewer = λ l b. s.fewer l (sym (same l (apart l b)) ∙ b);
        marked = λ l h b. ⊎_elim (λ r. inl (p.others l (apart l b) ∙ r)) (λ m. inr m) (s.marked l h (sym (same l (apart l b)) ∙ b));
        outside = λ l h. same l (λ e. omega (arith, h, e, inside)) ∙ s.outside l h;
      }

-- a part from a place on
pub part-from : (labels : List ℕ) (n : ℕ) → take (length labels - n) (drop n labels) ≡ drop n labels
part-from labels n = take_all (length labels - n) (drop n labels) (omega (arith, length-drop n labels))

-- the rest are bits of the word
pub rest-less : (word rest k others : ℕ) → Parted rest k others → ((l : ℕ) → bit rest l ≡ 1 → bit word l ≡ 1) → (l : ℕ) → bit others l ≡ 1 → bit word l ≡ 1
rest-less word rest k others p inside l b =
    let apart : l ≢ k = λ e. omega (arith, b, ap (bit others) e, p.gone) in
    inside l (sym (p.others l apart) ∙ b)

-- marks that are no fewer
pub shows-more : (marks after : List ℕ) → length after ≡ length marks → ((l : ℕ) → bit_at marks l ≡ 1 → bit_at after l ≡ 1) → (l : ℕ) → Shows marks l → Shows after l
shows-more marks after same more l s h = more l (s (omega (arith, same, h)))

-- the words of a set: those before w, and w
module _ (words labels : List ℕ) (w : ℕ) where
  abbrev here : List ℕ
  here = drop (64 * w) labels

  -- a target is one of an earlier word, or one of this word
  split : (k : ℕ) → k < min (64 * (w + 1)) (length labels) → (k < min (64 * w) (length labels)) ⊎ ((m : ℕ) × (m < 64) × (k ≡ 64 * w + m) × (m < length here))
  split k h = ⊎_elim
      (λ (b : k < 64 * w). inl (omega (arith, h, b)))
      (λ (b : 64 * w ≤ k). inr (k - 64 * w, omega (arith, h, b), omega (arith, b), omega (arith, h, b, length-drop (64 * w) labels)))
      (cases_lt k (64 * w))

  bit-here : (m : ℕ) → m < 64 → (k : ℕ) → k ≡ 64 * w + m → bit_at words k ≡ bit (get_or words w 0) m
  bit-here m h k e = ap (bit_at words) e ∙ bit-of_word words w m h

  label-here : (m k : ℕ) → k ≡ 64 * w + m → get_or labels k 0 ≡ get_or here m 0
  label-here m k e = ap (λ (n : ℕ). get_or labels n 0) e ∙ sym (get_or-drop (64 * w) labels m 0)

  pub given-word : (marks after : List ℕ) → Given words labels (min (64 * w) (length labels)) marks → ((l : ℕ) → Shows marks l → Shows after l)
      → ((k : ℕ) → k < length here → bit (get_or words w 0) k ≡ 1 → Shows after (get_or here k 0)) → Told here (get_or words w 0) marks after
      → Given words labels (min (64 * (w + 1)) (length labels)) after
  given-word marks after so_far more mark told = record {
    shown = λ k h left. ⊎_elim
        (λ (b : k < min (64 * w) (length labels)). more (get_or labels k 0) (so_far.shown k b left))
        (λ p. subst (Shows after) (sym (label-here p.0 k p.2)) (mark p.0 p.3 (sym (bit-here p.0 p.1 k p.2) ∙ left)))
        (split k h);
    only = λ l b. ⊎_elim
        (λ s. let o = so_far.only l s in (o.0, omega (arith, o.1), o.2, o.3))
        (λ g.
        let k = g.0 in
        (64 * w + k, omega (arith, g.2, length-drop (64 * w) labels, g.1), bit-of_word words w k g.1 ∙ g.3, sym (get_or-drop (64 * w) labels k 0) ∙ g.4))
        (told l b);
  }

  -- the targets of this word are sifted
  pub sifted-word : (start : List ℕ) (kept : ℕ) (marks : List ℕ) → w < length words → Sifted start words labels (min (64 * w) (length labels)) marks
      → ((k : ℕ) → k < length here → bit (get_or words w 0) k ≡ 1 → Shows marks (get_or here k 0) → bit kept k ≡ 1)
      → ((k : ℕ) → bit kept k ≡ 1 → bit (get_or words w 0) k ≡ 1)
      → ((k : ℕ) → k < length here → bit kept k ≡ 1 → Shows marks (get_or here k 0))
      → ((k : ℕ) → length here ≤ k → bit kept k ≡ bit (get_or words w 0) k)
      → Sifted start (set words w kept) labels (min (64 * (w + 1)) (length labels)) marks
  sifted-word start kept marks inside so_far keep fewer marked outside =
      let new = set words w kept in
      let first : (k : ℕ) → k < 64 → bit_at new (64 * w + k) ≡ bit kept k = λ k h. bit-of_word new w k h ∙ ap (λ (x : ℕ). bit x k) (get_or-set_same words w kept 0 inside) in
      let other : (l : ℕ) → l / 64 ≢ w → bit_at new l ≡ bit_at words l = λ l n. other-word words w kept l n in
      record {
        outside = λ l h. ⊎_elim
            (λ (e : l / 64 ≡ w).
            let m = l - 64 * w in
            let small : m < 64 = omega (arith, e) in
            let is : l ≡ 64 * w + m = omega (arith, e) in
            let past : length here ≤ m = omega (arith, h, e, length-drop (64 * w) labels) in
            ap (bit_at new) is ∙ first m small ∙ outside m past ∙ sym (bit-here m small l is) ∙ so_far.outside l (omega (arith, h, e)))
            (λ n. other l n ∙ so_far.outside l (omega (arith, h)))
            (cases_eq (l / 64) w);
        kept = λ l h b s. ⊎_elim
            (λ (early : l < min (64 * w) (length labels)).
            let n : l / 64 ≢ w = λ e. omega (arith, early, e) in
            other l n ∙ so_far.kept l early b s)
            (λ p.
            let was = sym (bit-here p.0 p.1 l p.2) ∙ so_far.outside l (omega (arith, p.2)) ∙ b in
            ap (bit_at new) p.2 ∙ first p.0 p.1 ∙ keep p.0 p.3 was (subst (Shows marks) (label-here p.0 l p.2) s))
            (split l h);
        fewer = λ l h b. ⊎_elim
            (λ (early : l < min (64 * w) (length labels)).
            let n : l / 64 ≢ w = λ e. omega (arith, early, e) in
            so_far.fewer l early (sym (other l n) ∙ b))
            (λ p. sym (so_far.outside l (omega (arith, p.2))) ∙ bit-here p.0 p.1 l p.2 ∙ fewer p.0 (sym (first p.0 p.1) ∙ ap (bit_at new) (sym p.2) ∙ b))
            (split l h);
        marked = λ l h b. ⊎_elim
            (λ (early : l < min (64 * w) (length labels)).
            let n : l / 64 ≢ w = λ e. omega (arith, early, e) in
            so_far.marked l early (sym (other l n) ∙ b))
            (λ p. subst (Shows marks) (sym (label-here p.0 l p.2)) (marked p.0 p.3 (sym (first p.0 p.1) ∙ ap (bit_at new) (sym p.2) ∙ b)))
            (split l h);
      }
