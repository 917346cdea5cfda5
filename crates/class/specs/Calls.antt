-- What one call of a class does.
use Rattle.std.specs.Prelude.{◌≡◌, ◌+◌, min, ◌⊎◌, Ok, Err, Result}
use Rattle.class.specs.declared.classes.Class.{Class}
use Rattle.class.specs.declared.classes.Issued.{Issued}
use Rattle.class.specs.declared.kind.Refusal.{Refusal}
use Rattle.class.specs.Kinds.{Subject, Covers, Tidied, Joined}

-- an issued class keeps what the gathering one held
pub record Kept {Thing : Type 0} (c : Class Thing) (i : Issued Thing) : Type 0 where
  pub rule : i.class.rule ≡ c.rule
  pub count : i.class.count ≡ c.count

module _ {Thing : Type 0} (k : Subject Thing) where
  pub record Begun (x : Thing) (c : Class Thing) : Type 0 where
    pub rule : Tidied k x c.rule
    pub count : c.count ≡ 1

  -- a rule that covers x stays, and any other becomes its join with x
  abbrev pub Widened : Thing → Thing → Thing → Type 0
  Widened r x s = (Covers k r x × (s ≡ r)) ⊎ ((Covers k r x → ⊥) × Joined k r x (Ok tt) s)

  -- x was taken, and the count goes up as far as its ceiling; or x was rejected, and the class stays
  abbrev pub Admitted : Class Thing → Thing → Result (Unit {0}) Refusal → Class Thing → Type 0
  Admitted c x (Ok _) d = Widened c.rule x d.rule × (d.count ≡ min (c.count + 1) 4294967295)
  Admitted c x (Err e) d = (Covers k c.rule x → ⊥) × Joined k c.rule x (Err e) d.rule × (d.count ≡ c.count)
