-- Columns, label by label, and what they sift.
use Rattle.std.proofs.Common.{◌≡◌, ℕ, zero, suc, ◌+◌, ◌-◌, ◌*◌, ◌/◌, ◌%◌, ◌^◌, ◌<◌, ◌≤◌, max, min, List, [], ◌∷◌, ◌++◌, length, get_or, set, replicate, take, drop, Option, Some, None, IfSome, ◌⊎◌, ◌≢◌, inl, inr, refl, sym, ap, ◌∙◌, subst, ⊎_elim, arith}
use Rattle.std.specs.Int.{bit_at as bit}
use Rattle.std.proofs.lemmas.Nat.Bits.{bit_at-lt, bit_at-zero, bit_at_ones, bit_at_above}
use Rattle.std.proofs.lemmas.List.{get_or-set_same, get_or-set_other, get_or-replicate, get_or_past, get_or_append_left, get_or_push, length-replicate}
use Rattle.std.proofs.lemmas.Bool.{cases_eq, cases_lt}
use Rattle.std.proofs.lemmas.Option.{none-some}
use Rattle.subsume.specs.declared.column.Column.{Column}
use Rattle.subsume.specs.declared.front.Front.{Front}
use Rattle.subsume.specs.Bits.{bit_at, Parted}
use Rattle.subsume.specs.Choices.{Given, front_at}
use Rattle.subsume.specs.Columns.{Supported, SiftedWord, Columned}

-- the first j targets stand where they must
pub record Filled (labels : List ℕ) (j : ℕ) (supports : List ℕ) (others : ℕ) : Type 0 where
  pub small : (i : ℕ) → i < j → get_or labels i 0 < 64
  pub here : (i : ℕ) → i < j → bit (get_or supports (get_or labels i 0) 0) i ≡ 1
  pub only : (l i : ℕ) → bit (get_or supports l 0) i ≡ 1 → (i < j) × (get_or labels i 0 ≡ l)
  pub none : (i : ℕ) → i < j → bit others i ≡ 0
  pub past : (i : ℕ) → j ≤ i → i < 64 → bit others i ≡ 1

-- no word of a list of zeros has a bit
zeros : (n l i : ℕ) → bit (get_or (replicate n 0) l 0) i ≡ 0
zeros n l i =
    ap (λ (w : ℕ). bit w i)
    (⊎_elim (λ (h : l < n). get_or-replicate n l 0 0 h) (λ h. get_or_past (replicate n 0) l 0 (omega (arith, length-replicate {A = ℕ} n 0))) (cases_lt l n))
    ∙ bit_at-zero i

pub filled-none : (labels : List ℕ) → Filled labels 0 (replicate 64 0) (2 ^ 64 - 1)
filled-none labels = record {
  small = λ i h. absurd (omega arith);
  here = λ i h. absurd (omega arith);
  only = λ l i b. absurd (omega (arith, b, zeros 64 l i));
  none = λ i h. absurd (omega arith);
  past = λ i h small. bit_at_ones 64 i small;
}

module _ (labels : List ℕ) (j : ℕ) (supports : List ℕ) (others : ℕ) (low : j < 64) (f : Filled labels j supports others) where
  abbrev label : ℕ
  label = get_or labels j 0

  pub filled-more : (word rest : ℕ) → label < length supports → label < 64 → bit word j ≡ 1 → ((i : ℕ) → i ≢ j → bit word i ≡ bit (get_or supports label 0) i)
      → bit rest j ≡ 0 → ((i : ℕ) → i < 64 → i ≢ j → bit rest i ≡ bit others i) → Filled labels (j + 1) (set supports label word) rest
  filled-more word rest inside small here same gone left =
      let new = set supports label word in
      let at-label : get_or new label 0 ≡ word = get_or-set_same supports label word 0 inside in
      -- what stood in a word before stands there still
      let still : (l i : ℕ) → i ≢ j → bit (get_or new l 0) i ≡ bit (get_or supports l 0) i = λ l i n. ⊎_elim
      (λ (e : l ≡ label). ap (λ (x : ℕ). bit (get_or new x 0) i) e ∙ ap (λ (w : ℕ). bit w i) at-label ∙ same i n ∙ ap (λ (x : ℕ). bit (get_or supports x 0) i) (sym e))
      (λ e. ap (λ (w : ℕ). bit w i) (get_or-set_other supports label l word 0 e))
      (cases_eq l label) in
      record {
        small = λ i h. ⊎_elim (λ (e : i ≡ j). subst (λ (x : ℕ). get_or labels x 0 < 64) (sym e) small) (λ n. f.small i (omega (arith, n, h))) (cases_eq i j);
        here = λ i h. ⊎_elim
            (λ (e : i ≡ j). subst (λ (x : ℕ). bit (get_or new (get_or labels x 0) 0) x ≡ 1) (sym e) (ap (λ (w : ℕ). bit w j) at-label ∙ here))
            (λ n. still (get_or labels i 0) i n ∙ f.here i (omega (arith, n, h)))
            (cases_eq i j);
        only = λ l i b. ⊎_elim
            (λ (e : i ≡ j). (
              omega (arith, e),
              ⊎_elim
                  (λ (is : l ≡ label). ap (λ (x : ℕ). get_or labels x 0) e ∙ sym is)
                  (λ other.
                  let was : bit (get_or supports l 0) i ≡ 1 = ap (λ (w : ℕ). bit w i) (sym (get_or-set_other supports label l word 0 other)) ∙ b in
                  (f.only l i was).1)
                  (cases_eq l label),
            ))
            (λ n. let o = f.only l i (sym (still l i n) ∙ b) in (omega (arith, o.0), o.1))
            (cases_eq i j);
        none = λ i h. ⊎_elim
            (λ (e : i ≡ j). ap (bit rest) e ∙ gone)
            (λ n. let early : i < j = omega (arith, n, h) in ⊎_elim (λ (s : i < 64). left i s n ∙ f.none i early) (λ s. absurd (omega (arith, s, early))) (cases_lt i 64))
            (cases_eq i j);
        past = λ i h s. let n : i ≢ j = λ e. omega (arith, e, h) in left i s n ∙ f.past i (omega (arith, h)) s;
      }

pub supported : (met labels supports : List ℕ) (others given : ℕ) (long : length supports ≡ 64) → length labels ≤ 16 → Filled labels (length labels) supports others → Given met labels (length labels) (given ∷ [])
    → Supported met labels (record { supports = supports; others = others; given = given; sized = long })
unfolding bit_at
supported met labels supports others given long few f g =
    let same : (l : ℕ) → l < 64 → bit_at (given ∷ []) l ≡ bit given l = λ l h.
    let w : l / 64 ≡ 0 = omega (arith, h) in
    let m : l % 64 ≡ l = omega (arith, h) in
    rw (w, m) refl in
    record {
      few = few;
      small = f.small;
      here = f.here;
      only = f.only;
      none = f.none;
      past = f.past;
      given = λ k h one. sym (same (get_or labels k 0) (f.small k h)) ∙ g.shown k h one (omega (arith, f.small k h));
      missing = λ l h apart. ⊎_elim
          (λ (one : bit given l ≡ 1). let o = g.only l (same l h ∙ one) in absurd (apart o.0 o.1 o.2 o.3))
          (λ n. omega (arith, n, bit_at-lt given l))
          (cases_eq (bit given l) 1);
    }

pub one-word : (words : List ℕ) → length words ≡ 1 → words ≡ get_or words 0 0 ∷ []
one-word [] e = absurd (omega (arith, e))
one-word (w ∷ []) e = refl
one-word (w ∷ v ∷ words) e = absurd (omega (arith, e))

-- of the marked labels, all but the rest have brought their targets
pub record Brought (column : Column) (marks : List ℕ) (rest kept : ℕ) : Type 0 where
  pub rests : (l : ℕ) → bit rest l ≡ 1 → bit (get_or marks 0 0) l ≡ 1
  pub before : (k : ℕ) → bit column.others k ≡ 1 → bit kept k ≡ 1
  pub brought : (l k : ℕ) → bit (get_or marks 0 0) l ≡ 1 → bit (get_or column.supports l 0) k ≡ 1 → (bit rest l ≡ 1) ⊎ (bit kept k ≡ 1)
  pub only : (k : ℕ) → bit kept k ≡ 1 → (bit column.others k ≡ 1) ⊎ ((l : ℕ) × (bit (get_or marks 0 0) l ≡ 1) × (bit (get_or column.supports l 0) k ≡ 1))

module _ (column : Column) (marks : List ℕ) where
  pub brought-none : Brought column marks (get_or marks 0 0) column.others
  brought-none = record { rests = λ l b. b; before = λ k b. b; brought = λ l k m s. inl m; only = λ k b. inl b }

  pub brought-more : (rest kept l others after : ℕ) → Parted rest l others → ((k : ℕ) → bit after k ≡ max (bit kept k) (bit (get_or column.supports l 0) k)) → Brought column marks rest kept
      → Brought column marks others after
  brought-more rest kept l others after p both b =
      let support = get_or column.supports l 0 in
      let low : (k : ℕ) → bit kept k < 2 = λ k. bit_at-lt kept k in
      let low' : (k : ℕ) → bit support k < 2 = λ k. bit_at-lt support k in
      let apart : (m : ℕ) → bit others m ≡ 1 → m ≢ l = λ m h e. omega (arith, h, ap (bit others) e, p.gone) in
      record {
        rests = λ m h. b.rests m (sym (p.others m (apart m h)) ∙ h);
        before = λ k h. omega (arith, both k, b.before k h, low' k);
        brought = λ m k h s. ⊎_elim
            (λ (e : m ≡ l). inr (omega (arith, both k, ap (λ (x : ℕ). bit (get_or column.supports x 0) k) e, s, low k)))
            (λ n. ⊎_elim (λ r. inl (p.others m n ∙ r)) (λ h'. inr (omega (arith, both k, h', low' k))) (b.brought m k h s))
            (cases_eq m l);
        only = λ k h. ⊎_elim
            (λ (one : bit kept k ≡ 1). b.only k one)
            (λ n. inr (l, b.rests l p.here, omega (arith, both k, h, n, low k, low' k)))
            (cases_eq (bit kept k) 1);
      }

  -- what is left of a word are its targets with marked labels
  pub brought-sifts : (met labels : List ℕ) (word kept after : ℕ) → Supported met labels column → 0 < length marks → word < 2 ^ 64 → after < 2 ^ 64 → Brought column marks 0 kept
      → ((k : ℕ) → bit after k ≡ min (bit word k) (bit kept k)) → SiftedWord labels word marks after
  unfolding bit_at
  brought-sifts met labels word kept after s some fits fits' b both =
      let low : (k : ℕ) → bit word k < 2 = λ k. bit_at-lt word k in
      let low' : (k : ℕ) → bit kept k < 2 = λ k. bit_at-lt kept k in
      let first : (l : ℕ) → l < 64 → bit_at marks l ≡ bit (get_or marks 0 0) l = λ l h.
      let w : l / 64 ≡ 0 = omega (arith, h) in
      let m : l % 64 ≡ l = omega (arith, h) in
      rw (w, m) refl in
      record {
        kept = λ k h one shown.
            let l = get_or labels k 0 in
            let small : l < 64 = s.small k h in
            let marked : bit (get_or marks 0 0) l ≡ 1 = sym (first l small) ∙ shown (omega (arith, small, some)) in
            ⊎_elim (λ (r : bit 0 l ≡ 1). absurd (omega (arith, r, bit_at-zero l))) (λ (r : bit kept k ≡ 1). omega (arith, both k, one, r)) (b.brought l k marked (s.here k h));
        fewer = λ k one. omega (arith, both k, one, low k, low' k);
        marked = λ k h one in_range.
            let held : bit kept k ≡ 1 = omega (arith, both k, one, low k, low' k) in
            ⊎_elim
            (λ (o : bit column.others k ≡ 1). absurd (omega (arith, o, s.none k h)))
            (λ p.
            let same : get_or labels k 0 ≡ p.0 = (s.only p.0 k p.2).1 in
            first (get_or labels k 0) (s.small k h) ∙ ap (bit (get_or marks 0 0)) same ∙ p.1)
            (b.only k held);
        outside = λ k h. ⊎_elim
            (λ (small : k < 64). omega (arith, both k, b.before k (s.past k h small), low k))
            (λ (large : 64 ≤ k). bit_at_above after 64 k fits' large ∙ sym (bit_at_above word 64 k fits large))
            (cases_lt k 64);
      }

-- the first target in a set with a label, of the first n
seek : (met labels : List ℕ) (l n : ℕ) → ((k : ℕ) × (k < n) × (bit_at met k ≡ 1) × (get_or labels k 0 ≡ l)) ⊎ ((k : ℕ) → k < n → bit_at met k ≡ 1 → get_or labels k 0 ≢ l)
seek met labels l zero = inr (λ k h. absurd (omega arith))
seek met labels l (suc n) =
    ⊎_elim
    (λ p. inl (p.0, omega (arith, p.1), p.2, p.3))
    (λ none. ⊎_elim
    (λ (one : bit_at met n ≡ 1). ⊎_elim
    (λ (e : get_or labels n 0 ≡ l). inl (n, omega arith, one, e))
    (λ e. inr (λ k h b. ⊎_elim (λ (is : k ≡ n). subst (λ (x : ℕ). get_or labels x 0 ≢ l) (sym is) e) (λ is. none k (omega (arith, is, h)) b) (cases_eq k n)))
    (cases_eq (get_or labels n 0) l))
    (λ zero'. inr (λ k h b. ⊎_elim (λ (is : k ≡ n). absurd (zero' (ap (bit_at met) (sym is) ∙ b))) (λ is. none k (omega (arith, is, h)) b) (cases_eq k n)))
    (cases_eq (bit_at met n) 1))
    (seek met labels l n)

-- the labels of a column, as words of a set
pub labels-given : (column : Column) (met labels words : List ℕ) → Supported met labels column → get_or words 0 0 ≡ column.given → ((l : ℕ) → 64 ≤ l → bit_at words l ≡ 0) → Given met labels (length labels) words
unfolding bit_at
labels-given column met labels words s first rest =
    let same : (l : ℕ) → l < 64 → bit_at words l ≡ bit column.given l = λ l h.
    let w : l / 64 ≡ 0 = omega (arith, h) in
    let m : l % 64 ≡ l = omega (arith, h) in
    rw (w, m) (ap (λ (x : ℕ). bit x l) first) in
    record {
      shown = λ k h one in_range. same (get_or labels k 0) (s.small k h) ∙ s.given k h one;
      only = λ l one. ⊎_elim
          (λ (small : l < 64). ⊎_elim (λ p. p) (λ apart. absurd (omega (arith, s.missing l small apart, same l small, one))) (seek met labels l (length labels)))
          (λ (large : 64 ≤ l). absurd (omega (arith, rest l large, one)))
          (cases_lt l 64);
    }

-- the first r fronts have their columns
abbrev pub Tabled : {N : ℕ} → List (Front N) → (n r : ℕ) → List (Option Column) → Type 0
Tabled fronts n r columns =
    (q : ℕ) (column : Column) → q < r → q < length fronts → get_or columns q None ≡ Some column → Supported (front_at fronts q).met.words (take n (front_at fronts q).labels) column

pub tabled-first : {N : ℕ} (fronts : List (Front N)) (n : ℕ) (columns : List (Option Column)) → columns ≡ None ∷ [] → Tabled fronts n 1 columns
tabled-first fronts n columns e q column early h is =
    let zero' : q ≡ 0 = omega (arith, early) in
    let none = subst (λ (z : List (Option Column)). get_or z q None ≡ Some column) e is in
    absurd (none-some column (subst (λ (x : ℕ). get_or (None ∷ []) x None ≡ Some column) zero' none))

module _ {N : ℕ} (fronts : List (Front N)) (n r : ℕ) (columns : List (Option Column)) (long : length columns ≡ r) (t : Tabled fronts n r columns) where
  pub tabled-more : (new : Option Column) → (r < length fronts → IfSome new (λ column. Supported (front_at fronts r).met.words (take n (front_at fronts r).labels) column)) → Tabled fronts n (r + 1) (columns ++ new ∷ [])
  tabled-more new here q column early h is =
      ⊎_elim
      (λ (e : q ≡ r).
      let last : new ≡ Some column = sym (get_or_push columns new None q (long ∙ sym e)) ∙ is in
      subst (λ (x : ℕ). Supported (front_at fronts x).met.words (take n (front_at fronts x).labels) column) (sym e)
      (subst (λ (o : Option Column). IfSome o (λ c. Supported (front_at fronts r).met.words (take n (front_at fronts r).labels) c)) last (here (subst (λ (x : ℕ). x < length fronts) e h))))
      (λ e. t q column (omega (arith, early, e)) h (sym (get_or_append_left columns (new ∷ []) None q (omega (arith, early, e, long))) ∙ is))
      (cases_eq q r)

  pub tabled-all : Columned fronts n columns
  tabled-all q column h is =
      ⊎_elim
      (λ (early : q < r). t q column early h is)
      (λ past. let none : None ≡ Some column = sym (get_or_past columns q None (omega (arith, long, past))) ∙ is in absurd (none-some column none))
      (cases_lt q r)

pub columned-at : {N : ℕ} (fronts : List (Front N)) (n : ℕ) (columns : List (Option Column)) (r : ℕ) → Columned fronts n columns → r < length fronts → (o : Option Column) → get_or columns r None ≡ o
    → IfSome o (λ column. Supported (front_at fronts r).met.words (take n (front_at fronts r).labels) column)
columned-at fronts n columns r all h (Some column) is = all r column h is
columned-at fronts n columns r all h None is = tt

-- where there is a column, one word has all targets
pub whole-part : (labels : List ℕ) (w : ℕ) → 64 * w < length labels → (o : Option Column) → IfSome o (λ column. (met : List ℕ) × Supported met labels column)
    → IfSome o (λ column. (met : List ℕ) × Supported met (drop (64 * w) labels) column)
whole-part labels w h (Some column) s =
    let zero' : 64 * w ≡ 0 = omega (arith, h, s.1.few) in
    (s.0, subst (λ (z : ℕ). Supported s.0 (drop z labels) column) (sym zero') s.1)
whole-part labels w h None s = tt
