-- Marks of literals: numbers below 256 that are made of the first bytes of their packed forms.
use Rattle.std.specs.Prelude.{◌≡◌, ℕ, ◌+◌, ◌*◌, ◌/◌, ◌%◌, Bool, true, false, List, [], ◌∷◌, get_or, take}
use Rattle.term.specs.Coding.{code}
use Rattle.term.specs.Words.{Word, Words}
use Rattle.word.specs.Packed.{packed}
use Rattle.record.specs.Clauses.{stands}

-- the bytes mixed with a number, one after the other
abbrev pub mixed_with : ℕ → List ℕ → ℕ
mixed_with mixed [] = mixed
mixed_with mixed (byte ∷ form) = mixed_with ((mixed + byte) * 40503 % 65536) form

abbrev pub mark_of : List ℕ → ℕ
mark_of form = mixed_with 0 (take 32 form) / 256

-- the mark of each of the words is set
abbrev pub Marked : Words → List Bool → Type 0
Marked us marks = (w : Word) → stands w us ≡ true → get_or marks (mark_of (packed (code w))) false ≡ true
