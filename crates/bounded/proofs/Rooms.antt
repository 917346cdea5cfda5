-- A push where there is room.
use Rattle.std.proofs.Common.{◌≡◌, ℕ, ◌<◌, List, [], ◌∷◌, ◌++◌, length, Ok, Err, Result, arith}
use Rattle.bounded.specs.declared.list.Full.{Full}
use Rattle.bounded.specs.Elems.{Pushed}

pub pushed_room : {T : Type 0} (N : ℕ) (x : T) (before : List T) (r : Result (Unit {0}) Full) (after : List T) → Pushed N x before r after → length before < N → after ≡ before ++ x ∷ []
pushed_room N x before (Ok o) after p h = p.1
pushed_room N x before (Err e) after p h = absurd (omega (arith, p.0))
