-- What a kind is, and what it owes.
use Rattle.std.specs.Prelude.{◌≡◌, List, [], ◌∷◌, Ok, Err, Result}
use Rattle.class.specs.declared.kind.Refusal.{Refusal}

-- members of any size, which covers which, and which are within the limit; what a thing means, when it is tidy,
-- and the number with which the join of two things is refused; and what exactly tidying and joining leave, by the kind's own definitions
pub record Subject (Thing : Type 0) : Type 1 where
  pub member : Type 0
  pub above : member → member → Type 0
  pub within : member → Type 0
  pub means : Thing → member
  pub tidy : Thing → Type 0
  pub refusal : Thing → Thing → Refusal
  pub tidies : Thing → Thing → Type 0
  pub joins : Thing → Thing → Result (Unit {0}) Refusal → Thing → Type 0

-- covering is reflexive and transitive, and each thing means a member within the limit
pub record Laws {Thing : Type 0} (k : Subject Thing) : Type 0 where
  pub itself : (m : k.member) → k.above m m
  pub through : (l m n : k.member) → k.above l m → k.above m n → k.above l n
  pub inside : (x : Thing) → k.within (k.means x)

module _ {Thing : Type 0} (k : Subject Thing) where
  abbrev pub Covers : Thing → Thing → Type 0
  Covers x y = k.above (k.means x) (k.means y)

  -- m covers each of ns
  abbrev pub Over : k.member → List k.member → Type 0
  Over m [] = Unit {0}
  Over m (n ∷ ns) = k.above m n × Over m ns

  -- m is least over ns: it covers them all, and every member that covers them all covers it
  pub record Least (m : k.member) (ns : List k.member) : Type 0 where
    pub over : Over m ns
    pub below : (l : k.member) → Over l ns → k.above l m

  -- some member within the limit is least over ns
  abbrev pub Held : List k.member → Type 0
  Held ns = (m : k.member) × k.within m × Least m ns

  -- tidying x left y
  pub record Tidied (x y : Thing) : Type 0 where
    pub up : Covers y x
    pub down : Covers x y
    pub tidy : k.tidy y
    pub value : k.tidies x y

  -- joining x with y left z
  abbrev pub Joined : Thing → Thing → Result (Unit {0}) Refusal → Thing → Type 0
  Joined x y (Ok o) z = Least (k.means z) (k.means x ∷ k.means y ∷ []) × k.tidy z × k.joins x y (Ok o) z
  Joined x y (Err e) z = (Held (k.means x ∷ k.means y ∷ []) → ⊥) × (e ≡ k.refusal x y) × (z ≡ x) × k.joins x y (Err e) z
