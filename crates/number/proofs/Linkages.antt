-- Linked bytes: what they say determines them.
use Rattle.std.proofs.Common.{◌≡◌, ℕ, ◌<◌, ◌≤◌, List, [], ◌∷◌, length, refl, ap, arith}
use Rattle.number.specs.Forms.{value_of, Linked, last}

-- a byte with its top bit set before linked bytes
pub link : (b : ℕ) (bs : List ℕ) → 128 ≤ b → b < 256 → Linked bs → Linked (b ∷ bs)
link b [] h g l = absurd l
link b (c ∷ bs) h g l = (h, g, l)

pub last-link : (b : ℕ) (bs : List ℕ) → Linked bs → last (b ∷ bs) ≡ last bs
last-link b [] l = absurd l
last-link b (c ∷ bs) l = refl

-- a last byte other than 0 makes the value other than 0
pub some-value : (bs : List ℕ) → Linked bs → 0 < last bs → 0 < value_of bs
some-value [] l h = absurd l
some-value (b ∷ []) l h = omega arith
some-value (b ∷ (c ∷ bs)) l h = omega (arith, some-value (c ∷ bs) l.2 h)

-- linked bytes without an idle last byte are equal where they say the same
pub same_bytes : (bs cs : List ℕ) → Linked bs → Linked cs → (1 < length bs → 0 < last bs) → (1 < length cs → 0 < last cs) → value_of bs ≡ value_of cs → bs ≡ cs
same_bytes [] cs l m p q e = absurd l
same_bytes (b ∷ []) [] l m p q e = absurd m
same_bytes (b ∷ (c ∷ bs)) [] l m p q e = absurd m
same_bytes (b ∷ []) (d ∷ []) l m p q e = let s : b ≡ d = omega arith in ap (λ (x : ℕ). x ∷ []) s
same_bytes (b ∷ []) (d ∷ (f ∷ cs)) l m p q e = absurd (omega (arith, some-value (f ∷ cs) m.2 (q (omega arith))))
same_bytes (b ∷ (c ∷ bs)) (d ∷ []) l m p q e = absurd (omega (arith, some-value (c ∷ bs) l.2 (p (omega arith))))
same_bytes (b ∷ (c ∷ bs)) (d ∷ (f ∷ cs)) l m p q e =
    let s : b ≡ d = omega arith in
    let t : value_of (c ∷ bs) ≡ value_of (f ∷ cs) = omega arith in
    let r : c ∷ bs ≡ f ∷ cs = same_bytes (c ∷ bs) (f ∷ cs) l.2 m.2 (λ _. p (omega arith)) (λ _. q (omega arith)) t in
    cc
