-- Going by the cases of a test.
use mathlib.Core.Logic.{ite}
use Rattle.std.proofs.Common.{◌≡◌, refl}

pub by-test : {P C : Type 0} (Q : C → Type 0) (d : Dec P) {x y : C} → (P → Q x) → (¬ P → Q y) → Q (ite d x y)
by-test Q (yes p) f g = f p
by-test Q (no n) f g = g n

-- two values of one test
pub by-test-both : {P C D : Type 0} (Q : C → D → Type 0) (d : Dec P) {x y : C} {v w : D} → (P → Q x v) → (¬ P → Q y w) → Q (ite d x y) (ite d v w)
by-test-both Q (yes p) f g = f p
by-test-both Q (no n) f g = g n

pub test-yes : {P C : Type 0} (d : Dec P) (x y : C) → P → ite d x y ≡ x
test-yes (yes p) x y h = refl
test-yes (no n) x y h = absurd (n h)

pub test-no : {P C : Type 0} (d : Dec P) (x y : C) → ¬ P → ite d x y ≡ y
test-no (yes p) x y h = absurd (h p)
test-no (no n) x y h = refl
