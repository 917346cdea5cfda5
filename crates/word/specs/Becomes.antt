-- What a value is after a read into it.
use Rattle.std.specs.Prelude.{◌≡◌, Ok, Err, Result}

-- the answer is what the definition gives; the value, as `view` sees it, is what was read, or after a fault the value is the one before
abbrev pub Becomes : {T X E : Type 0} → (T → X) → Result X E → (before : T) → Result (Unit {0}) E → (after : T) → Type 0
Becomes view (Ok x) before r after = (r ≡ Ok tt) × (view after ≡ x)
Becomes view (Err fault) before r after = (r ≡ Err fault) × (after ≡ before)
