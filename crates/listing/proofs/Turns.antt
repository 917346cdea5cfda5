-- A listing, turn by turn.
use Rattle.std.proofs.Common.{◌≡◌, ℕ, zero, suc, ◌+◌, ◌-◌, ◌<◌, ◌≤◌, List, ◌++◌, length, Some, None, Ok, Err, sym, refl, ap, append_assoc, sub-one, arith}
use Rattle.std.proofs.lemmas.Bool.{lt-ltb, le-ltb}
use Rattle.number.specs.declared.fault.NumberFault.{NumberFault}
use Rattle.number.specs.Reads.{read_number}
use Rattle.listing.specs.Lines.{after, number_line, count_line, fault_line}
use Rattle.listing.specs.Listed.{listed_from}

-- at the end of the input
pub from_end : (turns : ℕ) (input : List ℕ) (at count : ℕ) → length input ≤ at → listed_from turns input at count ≡ (count_line count, None)
unfolding listed_from
from_end zero input at count h = refl
from_end (suc turns) input at count h = rw (le-ltb at (length input) h)

-- a number more
pub from_more : (turns : ℕ) (input : List ℕ) (at count : ℕ) → at < length input → length input - at ≤ turns → (p : ℕ × ℕ) → read_number input at ≡ Ok p
    → listed_from turns input at count ≡ after (number_line at p.0) (listed_from (turns - 1) input p.1 (count + 1))
unfolding listed_from
from_more zero input at count h g p e = absurd (omega arith)
from_more (suc turns) input at count h g p e = rw (lt-ltb at (length input) h, e, sub-one)

-- a fault
pub from-fault : (turns : ℕ) (input : List ℕ) (at count : ℕ) → at < length input → length input - at ≤ turns → (fault : NumberFault) → read_number input at ≡ Err fault
    → listed_from turns input at count ≡ (fault_line fault, Some fault)
unfolding listed_from
from-fault zero input at count h g fault e = absurd (omega arith)
from-fault (suc turns) input at count h g fault e = rw (lt-ltb at (length input) h, e)

pub after-after : {X : Type 0} (a b : List ℕ) (t : List ℕ × X) → after a (after b t) ≡ after (a ++ b) t
after-after a b t = ap (λ (l : List ℕ). (l, t.1)) (sym (append_assoc a b t.0))
