-- What a bounded list holds, and what a push does.
use Rattle.std.specs.Prelude.{◌≡◌, ℕ, ◌<◌, List, [], ◌∷◌, ◌++◌, length, take, Ok, Err, Result}
use Rattle.bounded.specs.declared.list.Bounded.{Bounded}
use Rattle.bounded.specs.declared.list.Full.{Full}

-- the elements in use, first to last
abbrev pub elems : {T : Type 0} {N : ℕ} → Bounded T N → List T
elems b = take b.len b.items

-- x came to the end of a list with room; a full list stays as it was
abbrev pub Pushed : {T : Type 0} → ℕ → T → List T → Result (Unit {0}) Full → List T → Type 0
Pushed N x before (Ok _) after = (length before < N) × (after ≡ before ++ x ∷ [])
Pushed N x before (Err _) after = (length before ≡ N) × (after ≡ before)
