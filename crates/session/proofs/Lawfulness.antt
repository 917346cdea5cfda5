-- What a class met, it met under the law.
use Rattle.std.proofs.Common.{ℕ, zero, suc, Bool, true, false, List, ltb, length, Some, None, Ok, Err, Option, Result, sym, refl, subst}
use Rattle.std.specs.List.{between}
use Rattle.class.specs.Calls.{Begun}
use Rattle.class.specs.Runs.{Call, admit, gathers, Run}
use Rattle.class.specs.declared.classes.Class.{Class}
use Rattle.class.proofs.Longer.{run-longer}
use Rattle.entries.specs.Entries.{entry_at}
use Rattle.generaliser.proofs.Whole.{whole}
use Rattle.number.specs.declared.fault.NumberFault.{NumberFault}
use Rattle.record.specs.Kind.{records}
use Rattle.record.specs.Reads.{read_record}
use Rattle.record.specs.declared.clause.Record.{Record}
use Rattle.record.specs.declared.fault.RecordFault.{RecordFault}
use Rattle.term.specs.Words.{Words}
use Rattle.session.specs.Answers.{UnderLaw}
use Rattle.session.specs.Sessions.{Met, Takes, Turn, Leads, Ended, Onward, Either, Entries}
use Rattle.session.specs.declared.lines.Line.{Line}

-- its calls are a run from where it began
abbrev Follows : Option Met → Type 0
Follows None = Unit {0}
Follows (Some m) = (begun : Class Record) × Begun records m.first begun × Run records (gathers begun) m.calls (gathers m.class)

follows-takes : (l : Option Met) (x : Record) (line : Line) (m : Option Met) → Follows l → Takes l x line m → Follows m
follows-takes None x line None f t = absurd t
follows-takes None x line (Some m) f t =
    (m.class, subst (λ (y : Record). Begun records y m.class) (sym t.0) t.2, subst (λ (calls : List (Call Record)). Run records (gathers m.class) calls (gathers m.class)) (sym t.1) refl)
follows-takes (Some l) x line None f t = absurd t
follows-takes (Some l) x line (Some m) f t = (
  f.0,
  subst (λ (y : Record). Begun records y f.0) (sym t.2) f.1,
  subst (λ (calls : List (Call Record)). Run records (gathers f.0) calls (gathers m.class)) (sym t.3)
      (run-longer records (gathers f.0) l.calls (gathers l.class) (admit x t.0) (gathers m.class) f.2 t.1),
)

follows-turn : (start : ℕ) (r : Result Words RecordFault) (l : Option Met) (line : Line) (m : Option Met) → Follows l → Turn start r l line m → Follows m
follows-turn start (Ok ls) l line m f t = follows-takes l t.0 line m f t.2
follows-turn start (Err fault) l line m f t = subst Follows (sym t.1) f

abbrev Keeps : Leads → Type 0
Keeps one = (l : Option Met) (lines : List Line) (m : Option Met) → Follows l → one l lines m → Follows m

follows-ended : Keeps Ended
follows-ended l lines m f e = subst Follows (sym e.1) f

follows-onward : (input : List ℕ) (r : Result (ℕ × ℕ) NumberFault) (others : (at : ℕ) → Leads) → ((at : ℕ) → Keeps (others at)) → Keeps (Onward input r others)
follows-onward input (Ok p) others k l lines m f e = k p.1 e.1 e.2 m (follows-turn p.0 (read_record (between p.0 p.1 input)) l e.0 e.1 f e.3) e.4
follows-onward input (Err fault) others k l lines m f e = subst Follows (sym e.1) f

follows-either : (b : Bool) (one other : Leads) → Keeps one → Keeps other → Keeps (Either b one other)
follows-either true one other k j = k
follows-either false one other k j = j

follows-entries : (turns : ℕ) (input : List ℕ) (at : ℕ) → Keeps (Entries turns input at)
unfolding Entries
follows-entries zero input at = follows-ended
follows-entries (suc turns) input at =
    follows-either (ltb at (length input)) (Onward input (entry_at input at) (Entries turns input)) Ended
    (follows-onward input (entry_at input at) (Entries turns input) (follows-entries turns input)) follows-ended

pub under-law : (input : List ℕ) → UnderLaw input
under-law input lines m h =
    let f = follows-entries (length input) input 0 None lines (Some m) tt h in
    whole m.first f.0 f.1 m.calls (gathers m.class) f.2
