-- A gathering, turn by turn.
use Rattle.std.proofs.Common.{◌≡◌, ℕ, zero, suc, ◌-◌, ◌<◌, ◌≤◌, List, [], ◌∷◌, ◌++◌, length, Ok, Err, refl, ap, ◌∙◌, sub-one, arith}
use Rattle.std.specs.List.{between}
use Rattle.std.proofs.lemmas.Bool.{lt-ltb, le-ltb}
use Rattle.place.specs.Packing.{read_place}
use Rattle.term.specs.Words.{Word}
use Rattle.number.specs.declared.fault.NumberFault.{NumberFault}
use Rattle.number.specs.Faults.{told}
use Rattle.listing.specs.Lines.{after}
use Rattle.entries.specs.Entries.{entry_at}
use Rattle.gathering.specs.Gathered.{Told, one_entry, gathered_from, Ruled}
use Rattle.entries.specs.Lines.{bad_line}

-- at the end of the input
pub from_end : (turns : ℕ) (input : List ℕ) (at : ℕ) (ms : List Word) → length input ≤ at → gathered_from turns input at ms ≡ ([], ms)
unfolding gathered_from
from_end zero input at ms h = refl
from_end (suc turns) input at ms h = rw (le-ltb at (length input) h)

-- an entry more
pub from_more : (turns : ℕ) (input : List ℕ) (at : ℕ) (ms : List Word) → at < length input → length input - at ≤ turns → (start end : ℕ) → entry_at input at ≡ Ok (start, end) → (one : Told)
    → one ≡ one_entry start ms (read_place (between start end input)) → gathered_from turns input at ms ≡ after one.0 (gathered_from (turns - 1) input end one.1)
unfolding gathered_from
from_more zero input at ms h g start end e one o = absurd (omega arith)
from_more (suc turns) input at ms h g start end e one o = rw (lt-ltb at (length input) h, e, sub-one, o)

-- a fault of a length
pub from-fault : (turns : ℕ) (input : List ℕ) (at : ℕ) (ms : List Word) → at < length input → length input - at ≤ turns → (fault : NumberFault) → entry_at input at ≡ Err fault
    → gathered_from turns input at ms ≡ (bad_line (told fault).0 (told fault).1, ms)
unfolding gathered_from
from-fault zero input at ms h g fault e = absurd (omega arith)
from-fault (suc turns) input at ms h g fault e = rw (lt-ltb at (length input) h, e)

-- the rule after the lines
pub ruled-after : (text : List ℕ) (ms : List Word) (last out : List ℕ) → Ruled ([], ms) last → out ≡ text ++ last → Ruled (text, ms) out
ruled-after text [] last out r e = e ∙ ap (λ (l : List ℕ). text ++ l) r
ruled-after text (m ∷ ms) last out r e = (r.0, r.1, r.2, e ∙ ap (λ (l : List ℕ). text ++ l) r.3)
