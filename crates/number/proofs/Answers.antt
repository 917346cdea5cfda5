-- An answer is a value or a fault, and never both.
use Rattle.std.proofs.Common.{◌≡◌, ℕ, Bool, true, false, cond, ◌⊎◌, Ok, Err, Result, refl, inl, inr, arith}

pub clash : {X E : Type 0} (e : E) (x : X) → Err e ≡ Ok x → ⊥
clash e x h = let z : ◌≡◌ {A = ℕ} 0 1 = cc in omega arith

pub ok_same : {X E : Type 0} (x y : X) → ◌≡◌ {A = Result X E} (Ok x) (Ok y) → x ≡ y
ok_same x y h = cc

-- which way a test of the definition went
pub picked : {X : Type 0} (b : Bool) (x y z : X) → cond b x y ≡ z → ((b ≡ true) × (x ≡ z)) ⊎ ((b ≡ false) × (y ≡ z))
picked true x y z e = inl (refl, e)
picked false x y z e = inr (refl, e)
