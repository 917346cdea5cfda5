-- The entries of an input, one after the other.
use Rattle.std.proofs.Common.{◌≡◌, ℕ, zero, suc, ◌-◌, ◌<◌, ◌≤◌, List, [], ◌∷◌, length, Ok, Err, Option, refl, sub-one, arith}
use Rattle.std.specs.List.{between}
use Rattle.std.proofs.lemmas.Bool.{lt-ltb, le-ltb}
use Rattle.entries.specs.Entries.{entry_at}
use Rattle.number.specs.Faults.{told}
use Rattle.number.specs.declared.fault.NumberFault.{NumberFault}
use Rattle.record.specs.Reads.{read_record}
use Rattle.session.specs.Sessions.{Met, Turn, Entries}
use Rattle.session.specs.declared.lines.Line.{Line}
use Rattle.session.specs.declared.lines.Line.TheVariants.{Bad}

-- at the end of the input
pub entries-none : (turns : ℕ) (input : List ℕ) (at : ℕ) (l : Option Met) → length input ≤ at → Entries turns input at l [] l
unfolding Entries
entries-none zero input at l h = (refl, refl)
entries-none (suc turns) input at l h = rw (le-ltb at (length input) h) (refl, refl)

module _ (turns : ℕ) (input : List ℕ) (at : ℕ) (l : Option Met) (h : at < length input) (g : length input - at ≤ turns) where
  -- an entry more
  pub entries-more : (start end : ℕ) → entry_at input at ≡ Ok (start, end) → (line : Line) (mid : Option Met) → Turn start (read_record (between start end input)) l line mid
      → (more : List Line) (last : Option Met) → Entries (turns - 1) input end mid more last → Entries turns input at l (line ∷ more) last
  unfolding Entries
  entries-more start end is line mid turn more last rest = more-turns turns g rest where
    more-turns : (n : ℕ) → length input - at ≤ n → Entries (n - 1) input end mid more last → Entries n input at l (line ∷ more) last
    more-turns zero k r = absurd (omega arith)
    more-turns (suc n) k r = let s = rw sub-one at r in rw (lt-ltb at (length input) h, is) (line, mid, more, turn, s, refl)

  -- a fault of a length
  pub entries-fault : (fault : NumberFault) → entry_at input at ≡ Err fault → (question byte : ℕ) → question ≡ (told fault).0 → byte ≡ (told fault).1 → Entries turns input at l (Bad question byte ∷ []) l
  unfolding Entries
  entries-fault fault is question byte q b = fault-turns turns g where
    fault-turns : (n : ℕ) → length input - at ≤ n → Entries n input at l (Bad question byte ∷ []) l
    fault-turns zero k = absurd (omega arith)
    fault-turns (suc n) k = rw (lt-ltb at (length input) h, is, q, b) (refl, refl)
