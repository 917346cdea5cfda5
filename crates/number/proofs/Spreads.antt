-- A number over k bytes, where k bytes hold it.
use Rattle.std.proofs.Common.{◌≡◌, ℕ, zero, suc, ◌+◌, ◌/◌, ◌%◌, ◌^◌, ◌<◌, ◌≤◌, length, sym, refl, ap, subst, pow-suc, arith}
use Rattle.number.specs.Forms.{spread, value_of, Linked, last}
use Rattle.number.proofs.Linkages.{link, last-link}

pub length-spread : (k v : ℕ) → length (spread k v) ≡ k
length-spread zero v = refl
length-spread (suc zero) v = refl
length-spread (suc (suc k)) v = ap suc (length-spread (suc k) (v / 128))

-- one group less
less : (k v : ℕ) → v < 128 ^ suc (suc k) → v / 128 < 128 ^ suc k
less k v h = omega (arith, pow-suc 128 (suc k))

pub spread-linked : (k v : ℕ) → v < 128 ^ suc k → Linked (spread (suc k) v)
spread-linked zero v h = h
spread-linked (suc k) v h = link (128 + v % 128) (spread (suc k) (v / 128)) (omega arith) (omega arith) (spread-linked k (v / 128) (less k v h))

pub spread-says : (k v : ℕ) → v < 128 ^ suc k → value_of (spread (suc k) v) ≡ v
spread-says zero v h = omega arith
spread-says (suc k) v h = omega (arith, spread-says k (v / 128) (less k v h))

pub spread-last : (k v : ℕ) → v < 128 ^ suc k → 128 ^ k ≤ v → 0 < last (spread (suc k) v)
spread-last zero v h g = g
spread-last (suc k) v h g =
    let on = last-link (128 + v % 128) (spread (suc k) (v / 128)) (spread-linked k (v / 128) (less k v h)) in
    let rest = spread-last k (v / 128) (less k v h) (omega (arith, pow-suc 128 k)) in
    subst (λ (n : ℕ). 0 < n) (sym on) rest
