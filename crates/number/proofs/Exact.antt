-- Reading is exact: a form is read as its value, and what is read is a form.
use Rattle.std.proofs.Common.{◌≡◌, ℕ, ◌+◌, ◌-◌, ◌*◌, ◌%◌, ◌<◌, ◌≤◌, true, false, eqb, ltb, List, [], ◌∷◌, ◌++◌, length, get_or, take, drop, IfOk, Ok, Err, Result, sym, refl, ap, ◌∙◌, subst, inl, inr, arith}
use Rattle.std.specs.List.{between}
use Rattle.std.proofs.lemmas.List.{take-append-drop, length-drop, drop_all, get_or-drop, take_rest}
use Rattle.std.proofs.lemmas.Bool.{lt-ltb, le-ltb, ne_eqb, ltb-true, ltb-false, eqb-false}
use Rattle.number.specs.declared.fault.NumberFault.{NumberFault}
use Rattle.number.specs.declared.fault.NumberFault.TheVariants.{Missing}
use Rattle.number.specs.Forms.{form, Form}
use Rattle.number.specs.Reads.{first, read_number, Exactly}
use Rattle.number.proofs.Answers.{clash, ok_same, picked}
use Rattle.number.proofs.Linkages.{some-value}
use Rattle.number.proofs.Formed.{only-form}

-- a form is read as its value, whatever follows
pub reads-form : (v : ℕ) (bytes rest : List ℕ) (at end : ℕ) → Form v bytes → first (bytes ++ rest) at end ≡ Ok (v, at + length bytes)
reads-form v [] rest at end f = absurd f.linked
reads-form v (a ∷ []) rest at end f =
    let same : a ≡ v = omega (arith, f.says, f.linked) in
    rw (lt-ltb a 128 f.linked) (ap (λ (n : ℕ). Ok (n, at + 1)) same)
reads-form v (a ∷ (b ∷ [])) rest at end f =
    let same : a % 128 + 128 * b ≡ v = omega (arith, f.says, f.linked) in
    let some : 0 < b = f.exact (omega arith) in
    rw (le-ltb a 128 f.linked.0, lt-ltb b 128 f.linked.2, ne_eqb b 0 (λ e. omega arith)) (ap (λ (n : ℕ). Ok (n, at + 2)) same)
reads-form v (a ∷ (b ∷ (c ∷ []))) rest at end f =
    let same : a % 128 + 128 * (b % 128) + 16384 * c ≡ v = omega (arith, f.says, f.linked) in
    let some : 0 < c = f.exact (omega arith) in
    let small : c < 4 = omega (arith, f.range) in
    rw (le-ltb a 128 f.linked.0, le-ltb b 128 f.linked.2.0, lt-ltb c 4 small, ne_eqb c 0 (λ e. omega arith)) (ap (λ (n : ℕ). Ok (n, at + 3)) same)
reads-form v (a ∷ (b ∷ (c ∷ (d ∷ bytes)))) rest at end f = absurd (omega (arith, f.says, f.range, some-value (d ∷ bytes) f.linked.2.2.2 (f.exact (omega arith))))

-- a value of the form of n bytes at the start of the input, whose place after is n on
abbrev Stands : List ℕ → ℕ → ℕ × ℕ → Type 0
Stands input at p = (n : ℕ) × (p.1 ≡ at + n) × (0 < n) × (n ≤ length input) × Form p.0 (take n input)

one : (a : ℕ) (xs : List ℕ) (at : ℕ) (p : ℕ × ℕ) → ltb a 128 ≡ true → (a, at + 1) ≡ p → Stands (a ∷ xs) at p
one a xs at p h e =
    subst (Stands (a ∷ xs) at) e (1, refl, omega arith, omega arith, let small = ltb-true a 128 h in record { says = omega arith; range = omega arith; linked = small; exact = λ k. absurd (omega arith) })

two : (a b : ℕ) (xs : List ℕ) (at : ℕ) (p : ℕ × ℕ) → ltb a 128 ≡ false → a < 256 → ltb b 128 ≡ true → eqb b 0 ≡ false → (a % 128 + 128 * b, at + 2) ≡ p → Stands (a ∷ (b ∷ xs)) at p
two a b xs at p h g k some e =
    subst (Stands (a ∷ (b ∷ xs)) at) e (2, refl, omega arith, omega arith, let small = ltb-true b 128 k in record { says = omega arith; range = omega arith; linked = (ltb-false a 128 h, g, small); exact = λ _. omega (arith, eqb-false b 0 some) })

three : (a b c : ℕ) (xs : List ℕ) (at : ℕ) (p : ℕ × ℕ) → ltb a 128 ≡ false → a < 256 → ltb b 128 ≡ false → b < 256 → ltb c 4 ≡ true → eqb c 0 ≡ false → (a % 128 + 128 * (b % 128) + 16384 * c, at + 3) ≡ p → Stands (a ∷ (b ∷ (c ∷ xs))) at p
three a b c xs at p h g k l small some e =
    subst (Stands (a ∷ (b ∷ (c ∷ xs))) at) e (3, refl, omega arith, omega arith, let few = ltb-true c 4 small in record { says = omega arith; range = omega arith; linked = (ltb-false a 128 h, g, (ltb-false b 128 k, l, omega arith)); exact = λ _. omega (arith, eqb-false c 0 some) })

-- what is read is a form
reads-stands : (input : List ℕ) (at end : ℕ) (p : ℕ × ℕ) → ((i : ℕ) → get_or input i 0 < 256) → first input at end ≡ Ok p → Stands input at p
reads-stands [] at end p h e = absurd (clash _ p e)
reads-stands (a ∷ []) at end p h e = elim (picked (ltb a 128) _ _ _ e) [ inl s ↦ one a [] at p s.0 (ok_same _ p s.1) | inr s ↦ absurd (clash _ p s.1) ]
reads-stands (a ∷ (b ∷ [])) at end p h e =
    elim (picked (ltb a 128) _ _ _ e) [
      | inl s ↦ one a (b ∷ []) at p s.0 (ok_same _ p s.1)
      | inr s ↦ elim (picked (ltb b 128) _ _ _ s.1) [
        | inl t ↦ elim (picked (eqb b 0) _ _ _ t.1) [ inl u ↦ absurd (clash _ p u.1) | inr u ↦ two a b [] at p s.0 (h 0) t.0 u.0 (ok_same _ p u.1) ]
        | inr t ↦ absurd (clash _ p t.1)
      ]
    ]
reads-stands (a ∷ (b ∷ (c ∷ xs))) at end p h e =
    elim (picked (ltb a 128) _ _ _ e) [
      | inl s ↦ one a (b ∷ (c ∷ xs)) at p s.0 (ok_same _ p s.1)
      | inr s ↦ elim (picked (ltb b 128) _ _ _ s.1) [
        | inl t ↦ elim (picked (eqb b 0) _ _ _ t.1) [ inl u ↦ absurd (clash _ p u.1) | inr u ↦ two a b (c ∷ xs) at p s.0 (h 0) t.0 u.0 (ok_same _ p u.1) ]
        | inr t ↦ elim (picked (ltb c 4) _ _ _ t.1) [
          | inl u ↦ elim (picked (eqb c 0) _ _ _ u.1) [ inl w ↦ absurd (clash _ p w.1) | inr w ↦ three a b c xs at p s.0 (h 0) t.0 (h 1) u.0 w.0 (ok_same _ p w.1) ]
          | inr u ↦ absurd (clash _ p u.1)
        ]
      ]
    ]

-- the answer of a read is exact, and its bytes are what would be written
pub exactly : (input : List ℕ) (at : ℕ) → ((i : ℕ) → get_or input i 0 < 256) → (r : Result (ℕ × ℕ) NumberFault) → r ≡ read_number input at → Exactly input at r
unfolding read_number
exactly input at h (Ok p) e =
    let bytes : (i : ℕ) → get_or (drop at input) i 0 < 256 = λ i. rw (get_or-drop at input i 0) (h (at + i)) in
    let s = reads-stands (drop at input) at (length input) p bytes (sym e) in
    let n : p.1 - at ≡ s.0 = omega (arith, s.1) in
    (omega (arith, s.1, s.2), omega (arith, s.1, s.3, s.2, length-drop at input), rw n s.4)
exactly input at h (Err d) e = λ v to f.
    let n = to - at in
    let rest = drop at input in
    let read = reads-form v (take n rest) (drop n rest) at (length input) f in
    clash d _ (e ∙ rw (take-append-drop n rest) at read)

pub again : (input : List ℕ) (at : ℕ) (r : Result (ℕ × ℕ) NumberFault) → Exactly input at r → IfOk r (λ p. between at p.1 input ≡ form p.0)
again input at (Ok p) x = only-form p.0 (between at p.1 input) x.2
again input at (Err d) x = tt

-- an input that ends before the number
pub read_none : (input : List ℕ) (at : ℕ) → length input ≤ at → Err (Missing (length input)) ≡ read_number input at
unfolding read_number
read_none input at h = ap (λ (rest : List ℕ). first rest at (length input)) (sym (drop_all at input h))

-- the rest of the input, as the code cuts it
pub read-rest : (input : List ℕ) (at : ℕ) → first (between at (length input) input) at (length input) ≡ read_number input at
unfolding read_number
read-rest input at = ap (λ (rest : List ℕ). first rest at (length input)) (take_rest input at)

-- the number that stands somewhere
pub number-stands : (input : List ℕ) (at : ℕ) → ((i : ℕ) → get_or input i 0 < 256) → (p : ℕ × ℕ) → read_number input at ≡ Ok p
    → (at < p.1) × (p.1 ≤ length input) × (p.0 ≤ 65535) × (between at p.1 input ≡ form p.0)
number-stands input at bytes p e =
    let x = exactly input at bytes (Ok p) (sym e) in
    (x.0, x.1, x.2.range, again input at (Ok p) x)
