-- What a look-out finds: variables that must move, and literals that are not reached.
use Rattle.std.proofs.Common.{◌≡◌, ℕ, ◌+◌, ◌-◌, ◌*◌, ◌^◌, ◌<◌, ◌≤◌, min, bit_and, List, length, get_or, Bool, true, false, Contains, sym, ap, ap₂, ◌∙◌, subst, refl, ⊎_elim, ◌≢◌, arith}
use Rattle.std.specs.Int.{w64, bit_not, bit_at as bit}
use Rattle.std.proofs.lemmas.Nat.Bits.{bit_at_and, bit_at_not, bit_at-zero}
use Rattle.std.proofs.lemmas.Bool.{cases_lt}
use Rattle.std.proofs.lemmas.List.{get_or-map, get_or_default, length-map}
use Rattle.std.proofs.lemmas.List.Elements.{Contains-get_or}
use Rattle.clauses.specs.Clauses.{literals_at}
use Rattle.term.specs.Coding.{word_at}
use Rattle.term.specs.Words.{Word, var, sub}
use Rattle.term.specs.declared.node.Node.{Node}
use Rattle.term.proofs.Substitutions.{sub-var}
use Rattle.subsume.specs.declared.front.Front.{Front}
use Rattle.subsume.specs.declared.slot.Slot.{Slot}
use Rattle.subsume.specs.Bits.{bit_at}
use Rattle.subsume.specs.Choices.{no_slot, slot_at, labels_of}
use Rattle.subsume.specs.Meeting.{place_of}
use Rattle.subsume.specs.Retracting.{Retracts, Spares, Moves, Differs}
use Rattle.subsume.specs.Solving.{TurnsAt, Named, Linked, OpenAt}
use Rattle.subsume.proofs.Sets.{bit-below, bit-of_word}

-- the bits of a word that another has not
bit-without : (word other k : ℕ) → other < 2 ^ 64 → k < 64 → bit (bit_and word (bit_not w64 other)) k ≡ min (bit word k) (1 - bit other k)
bit-without word other k fits small = bit_at_and word (bit_not w64 other) k ∙ ap (min (bit word k)) (bit_at_not w64 other k fits small)

-- a set within another, as far as the word w
pub within-more : (one other : List ℕ) (w : ℕ) → get_or other w 0 < 2 ^ 64 → bit_and (get_or one w 0) (bit_not w64 (get_or other w 0)) ≡ 0
    → ((k : ℕ) → k < 64 * w → bit_at one k ≡ 1 → bit_at other k ≡ 1) → (k : ℕ) → k < 64 * (w + 1) → bit_at one k ≡ 1 → bit_at other k ≡ 1
within-more one other w fits none before k h b =
    ⊎_elim
    (λ (early : k < 64 * w). before k early b)
    (λ late.
    let m : ℕ = k - 64 * w in
    let is : k ≡ 64 * w + m = omega (arith, late) in
    let small : m < 64 = omega (arith, h, late) in
    let here : (ws : List ℕ) → bit_at ws k ≡ bit (get_or ws w 0) m = λ ws. ap (bit_at ws) is ∙ bit-of_word ws w m small in
    let both = bit-without (get_or one w 0) (get_or other w 0) m fits small in
    omega (arith, b, here one, here other, both, ap (λ (z : ℕ). bit z m) none, bit_at-zero m, bit-below other k))
    (cases_lt k (64 * w))

pub stands-in : (slots : List Slot) (slot : Slot) (s : ℕ) → s < length slots → slot_at slots s ≡ slot → Contains slots slot
stands-in slots slot s h is = (s, h, get_or_default slots s slot no_slot h ∙ is)

module _ (N : List Node) (S : List ℕ) (M : List Node) (T : List ℕ) where
  -- what the table says of a slot
  abbrev pub Told : {K : ℕ} → List (Front K) → Slot → Type 0
  Told fronts slot = (slot.literal < length S) × Named N S M T slot.literal slot.variable (labels_of fronts slot) × (slot.front < length fronts)

  pub told : {K : ℕ} (fronts : List (Front K)) (slots : List Slot) (slot : Slot) → Linked N S M T fronts slots → Contains slots slot → Told fronts slot
  told fronts slots slot linked c = subst (Told fronts) (get_or_default slots c.0 no_slot slot c.1 ∙ c.2) (linked c.0 c.1)

  -- of the targets before the word w, each that is left and not gone gives the variable another label
  abbrev pub Others : (left gone : List ℕ) (i x label w : ℕ) → Type 0
  Others left gone i x label w = (j : ℕ) → j < 64 * w → j < length T → bit_at left j ≡ 1 → bit_at gone j ≡ 0 → Differs N S M T i x j label

  pub others-more : (left gone : List ℕ) (i x label w : ℕ) → get_or gone w 0 < 2 ^ 64
      → ((k : ℕ) → bit (bit_and (get_or left w 0) (bit_not w64 (get_or gone w 0))) k ≡ 1 → 64 * w + k < length T → Differs N S M T i x (64 * w + k) label)
      → Others left gone i x label w → Others left gone i x label (w + 1)
  others-more left gone i x label w fits here before j h inside b g =
      ⊎_elim
      (λ (early : j < 64 * w). before j early inside b g)
      (λ late.
      let k : ℕ = j - 64 * w in
      let is : j ≡ 64 * w + k = omega (arith, late) in
      let small : k < 64 = omega (arith, h, late) in
      let place : (ws : List ℕ) → bit_at ws j ≡ bit (get_or ws w 0) k = λ ws. ap (bit_at ws) is ∙ bit-of_word ws w k small in
      subst (λ (z : ℕ). Differs N S M T i x z label) (sym is) (here k (omega (arith, bit-without (get_or left w 0) (get_or gone w 0) k fits small, place left, place gone, b, g)) (omega (arith, inside, is))))
      (cases_lt j (64 * w))

-- a literal that does not stay is not reached
unreached : (kept gone after : List ℕ) (C : List Word) (i : ℕ) (θ : ℕ → Word) → i < length C → ((j : ℕ) → j ≢ i → bit_at after j ≡ bit_at gone j)
    → (sub θ (get_or C i (var 0)) ≢ get_or C i (var 0)) → Retracts kept gone C θ → Retracts kept after C θ
unreached kept gone after C i θ inside same leaves r = record {
  into = λ k d h.
      let l : Word = get_or C k d in
      let o = r.into k d h in
      let other : o.0 ≢ i = λ e.
      let is : sub θ l ≡ get_or C i (var 0) = sym o.3 ∙ ap (λ (z : ℕ). get_or C z (sub θ l)) e ∙ get_or_default C i (sub θ l) (var 0) inside in
      leaves (ap (sub θ) (sym is) ∙ r.once l (Contains-get_or C k d h) ∙ is) in
      (o.0, o.1, same o.0 other ∙ o.2, o.3);
  once = r.once;
  stays = r.stays;
}

-- the table links a clause with itself
module _ (N : List Node) (S : List ℕ) (M : List Node) (T : List ℕ) (nodes : N ≡ M) (starts : S ≡ T) where
  abbrev C : List Word
  C = literals_at M T

  turns : (θ : ℕ → Word) (i j : ℕ) → sub θ (word_at M (get_or T i 0)) ≡ word_at M (get_or T j 0) → TurnsAt N S M T θ i j
  turns θ i j e = ap₂ (λ (n : List Node) (s : List ℕ). sub θ (word_at n (get_or s i 0))) nodes starts ∙ e

  literal : (i : ℕ) (d : Word) → i < length T → get_or C i d ≡ word_at M (get_or T i 0)
  literal i d h = get_or-map (word_at M) T i 0 d h

  pub turns-itself : (i : ℕ) → TurnsAt N S M T var i i
  turns-itself i = turns var i i (sub-var (word_at M (get_or T i 0)))

  -- the target that literal i is turned into
  target : (kept gone : List ℕ) (i : ℕ) → i < length T → (θ : ℕ → Word) → Retracts kept gone C θ → (j : ℕ) × (j < length T) × (bit_at gone j ≡ 0) × TurnsAt N S M T θ i j
  target kept gone i inside θ r =
      let o = r.into i (var 0) (omega (arith, length-map T (word_at M), inside)) in
      let within : o.0 < length T = omega (arith, length-map T (word_at M), o.1) in
      (o.0, within, o.2, turns θ i o.0 (ap (sub θ) (sym (literal i (var 0) inside)) ∙ sym o.3 ∙ literal o.0 (sub θ (get_or C i (var 0))) within))

  -- a literal without support: its variable must move
  pub unsupported : (left kept gone : List ℕ) (i x label w : ℕ) → i < length T → length T ≤ 64 * w → OpenAt N S M T i left → label ≡ place_of M (var x)
      → Others N S M T left gone i x label w → Moves kept gone M T x
  unsupported left kept gone i x label w inside all wide own others θ r e =
      let t = target kept gone i inside θ r in
      others t.0 (omega (arith, t.1, all)) t.1 (wide t.0 t.1 θ t.3) t.2 θ t.3 (e ∙ sym own)

  -- a literal without a candidate: there is no such substitution
  pub spares-none : (left kept gone : List ℕ) (i : ℕ) → i < length T → OpenAt N S M T i left → ((j : ℕ) → bit_at left j ≡ 1 → bit_at gone j ≡ 1) → Spares kept gone gone C false
  spares-none left kept gone i inside wide none θ r = let t = target kept gone i inside θ r in absurd (omega (arith, t.2, none t.0 (wide t.0 t.1 θ t.3)))

  -- the literal of a slot of a variable that must move is not reached, and where it is kept, there is no such substitution
  module _ {K : ℕ} (fronts : List (Front K)) (slot : Slot) (own : Told N S M T fronts slot) (kept first : List ℕ) (moves : Moves kept first M T slot.variable) where
    inside : slot.literal < length T
    inside = omega (arith, own.0, ap length starts)

    stands : slot.literal < length C
    stands = omega (arith, length-map T (word_at M), inside)

    leaves : (θ : ℕ → Word) → Retracts kept first C θ → sub θ (get_or C slot.literal (var 0)) ≢ get_or C slot.literal (var 0)
    leaves θ r e =
        let i = slot.literal in
        let same = literal i (var 0) inside in
        moves θ r (sym (own.1 i inside θ (turns θ i i (ap (sub θ) (sym same) ∙ e ∙ same))) ∙ own.1 i inside var (turns-itself i))

    pub kept-none : (after : List ℕ) → bit_at kept slot.literal ≡ 1 → Spares kept first after C false
    kept-none after b θ r = absurd (leaves θ r (r.stays slot.literal stands b))

    pub lost-more : (gone after : List ℕ) → Spares kept first gone C true → ((j : ℕ) → j ≢ slot.literal → bit_at after j ≡ bit_at gone j) → Spares kept first after C true
    lost-more gone after spares others θ r = (refl, unreached kept gone after C slot.literal θ stands others (leaves θ r) (spares θ r).1)

-- one look after the other
pub spares-then : (kept before mid after : List ℕ) (C : List Word) (answer last : Bool) → answer ≡ last → Spares kept before mid C true → Spares kept mid after C answer → Spares kept before after C last
spares-then kept before mid after C answer last e first then θ r =
    let s = then θ (first θ r).1 in
    (sym e ∙ s.0, s.1)
