-- One answer after another.
use Rattle.std.specs.Prelude.{Ok, Err, Result}

-- goes on with what was answered, or ends at the fault, told by f in the fault of the whole
abbrev pub then : {X Y E F : Type 0} → (E → F) → Result X E → (X → Result Y F) → Result Y F
then f (Ok x) next = next x
then f (Err e) next = Err (f e)
