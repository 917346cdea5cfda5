-- The table of groups gives the fewest groups that hold a number.
use Rattle.std.proofs.Common.{◌≡◌, ℕ, zero, suc, ◌+◌, ◌*◌, ◌^◌, ◌<◌, ◌≤◌, max, Bool, true, ◌&&◌, leb, List, [], ◌∷◌, length, get_or, sym, refl, ap, ◌∙◌, inl, inr, pow-suc, arith, pow_mono, pow-add}
use Rattle.std.proofs.lemmas.Nat.{leading_length}
use Rattle.std.proofs.lemmas.Bool.{leb-true, and_parts, cases_lt}
use Rattle.number.specs.Groups.{table, bits, groups, Ruled, Fewest}

-- the rule at an entry, and at each entry of a list whose first is for b bits
abbrev right : (b k : ℕ) → Bool
right b k = leb (max b 1) (7 * k) && leb (7 * k) (max b 1 + 6)

abbrev all_right : ℕ → List ℕ → Bool
all_right b [] = true
all_right b (k ∷ ks) = right b k && all_right (suc b) ks

right-at : (b : ℕ) (ks : List ℕ) → all_right b ks ≡ true → (i : ℕ) → i < length ks → right (b + i) (get_or ks i 0) ≡ true
right-at b [] t i h = absurd (omega arith)
right-at b (k ∷ ks) t zero h = let z : b + 0 ≡ b = omega arith in rw z (and_parts (right b k) (all_right (suc b) ks) t).0
right-at b (k ∷ ks) t (suc i) h =
    let z : b + suc i ≡ suc b + i = omega arith in
    rw z (right-at (suc b) ks (and_parts (right b k) (all_right (suc b) ks) t).1 i (omega arith))

pub table-ruled : Ruled
table-ruled b h =
    let k = get_or table b 0 in
    let t : right (0 + b) k ≡ true = right-at 0 table refl b (omega arith) in
    let p = and_parts (leb (max (0 + b) 1) (7 * k)) (leb (7 * k) (max (0 + b) 1 + 6)) t in
    (omega (arith, leb-true (max (0 + b) 1) (7 * k) p.0), omega (arith, leb-true (7 * k) (max (0 + b) 1 + 6) p.1))

groups-as-bits : (k : ℕ) → 128 ^ k ≡ 2 ^ (7 * k)
groups-as-bits zero = refl
groups-as-bits (suc k) =
    let more : 7 * suc k ≡ 7 * k + 7 = omega arith in
    pow-suc 128 k ∙ ap (λ (n : ℕ). n * 128) (groups-as-bits k) ∙ sym (pow-add 2 (7 * k) 7) ∙ ap (λ (n : ℕ). 2 ^ n) (sym more)

-- m bits that the value fills, and the k groups that the rule gives them
fewest-by-rule : (v m k : ℕ) → v < 2 ^ m → 2 ^ m ≤ 2 * v + 1 → max m 1 ≤ 7 * k → 7 * k ≤ max m 1 + 6 → Fewest v k
fewest-by-rule v m k below above low high = record {
  some = omega arith;
  holds = let h : 2 ^ m ≤ 2 ^ (7 * k) = pow_mono (omega arith) in omega (arith, groups-as-bits k);
  fewest = λ j some h. elim (cases_lt j k) [
    | inl short ↦
        let fits : 2 ^ (7 * j + 1) ≤ 2 ^ m = pow_mono (omega arith) in
        absurd (omega (arith, groups-as-bits j, pow-add 2 (7 * j) 1))
    | inr long ↦ long
  ];
}

pub groups-fewest : (v : ℕ) → v < 2 ^ 16 → Fewest v (groups v)
unfolding groups
groups-fewest v h =
    let filled = leading_length 16 v h in
    let m = filled.0 in
    let count : bits v ≡ m = omega (arith, filled.1) in
    let rule = table-ruled m (omega (arith, filled.1)) in
    rw count (fewest-by-rule v m (get_or table m 0) filled.2 filled.3 rule.0 rule.1)
