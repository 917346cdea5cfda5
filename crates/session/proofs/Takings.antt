-- What a class met, call by call.
use Rattle.std.proofs.Common.{◌≡◌, ℕ, ◌+◌, List, [], ◌∷◌, ◌++◌, Some, None, Ok, Err, Option, Result, sym, refl, ◌∙◌, subst}
use Rattle.std.proofs.lemmas.Option.{none-some, same_Some}
use Rattle.class.specs.Calls.{Begun, Admitted}
use Rattle.class.specs.Runs.{admit}
use Rattle.class.specs.declared.classes.Class.{Class}
use Rattle.class.specs.declared.kind.Refusal.{Refusal}
use Rattle.record.specs.Faults.{told}
use Rattle.record.specs.Kind.{records}
use Rattle.record.specs.Reads.{read_record}
use Rattle.record.specs.Records.{literals}
use Rattle.record.specs.declared.clause.Record.{Record}
use Rattle.record.specs.declared.fault.RecordFault.{RecordFault}
use Rattle.term.specs.Words.{Words}
use Rattle.session.specs.Goings.{Goes}
use Rattle.session.specs.Lines.{admitted}
use Rattle.session.specs.Sessions.{Takes, Turn}
use Rattle.session.specs.declared.lines.Line.{Line}
use Rattle.session.specs.declared.lines.Line.TheVariants.{Begun as BegunLine, Bad}

-- the first record, and one more
pub begins : (o : Option (Class Record)) → o ≡ None → (x : Record) (c : Class Record) → Begun records x c → Goes o (λ l m. Takes l x BegunLine m) (Some c)
begins o is x c b None e = (Some (record { first = x; calls = []; class = c }), refl, (refl, refl, b, refl))
begins o is x c b (Some l) e = absurd (none-some l.class (sym is ∙ sym e))

pub admits : (c : Class Record) (x : Record) (answer : Result (Unit {0}) Refusal) (d : Class Record) → Admitted records c x answer d → Goes (Some c) (λ l m. Takes l x (admitted answer) m) (Some d)
admits c x answer d a None e = absurd (none-some c e)
admits c x answer d a (Some l) e = (
  Some (record { first = l.first; calls = l.calls ++ (admit x answer ∷ []); class = d }),
  refl,
  (answer, subst (λ (b : Class Record). Admitted records b x answer d) (sym (same_Some l.class c e)) a, refl, refl, refl),
)

-- an entry that is a record, and one that is damaged
pub goes-record : (start : ℕ) (bytes : List ℕ) (x : Record) (before after : Option (Class Record)) (line : Line) → read_record bytes ≡ Ok (literals x)
    → Goes before (λ l m. Takes l x line m) after → Goes before (λ l m. Turn start (read_record bytes) l line m) after
goes-record start bytes x before after line is goes l e =
    let g = goes l e in
    (g.0, g.1, subst (λ (r : Result Words RecordFault). Turn start r l line g.0) (sym is) (x, refl, g.2))

pub goes-fault : (start : ℕ) (bytes : List ℕ) (fault : RecordFault) (before : Option (Class Record)) (question byte : ℕ) → read_record bytes ≡ Err fault → question ≡ (told fault).0 → byte ≡ (told fault).1
    → Goes before (λ l m. Turn start (read_record bytes) l (Bad question (start + byte)) m) before
goes-fault start bytes fault before question byte is q b l e =
    (l, e, subst (λ (r : Result Words RecordFault). Turn start r l (Bad question (start + byte)) l) (sym is) (rw (q, b) refl, refl))
