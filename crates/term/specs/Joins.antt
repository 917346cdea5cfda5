-- The join of two words: their least general generalisation.
use Rattle.std.specs.Prelude.{◌≡◌, ℕ, suc, List, [], ◌∷◌}
use Rattle.std.proofs.Math.Logic.{ite}
use Rattle.std.proofs.Common.{ap}
use Rattle.std.proofs.Math.Decide.{ℕ_discrete}
use Rattle.term.specs.declared.node.Symbol.{Symbol}
use Rattle.term.specs.declared.node.Symbol.TheVariants.{Function, Positive, Negative}
use Rattle.term.specs.Words.{Word, var, app, Words, nil, cons, len, Word-discrete}

unfoldable pub both_decided : {A B : Type 0} → Dec A → Dec B → Dec (A × B)
both_decided (yes a) (yes b) = yes (a, b)
both_decided (yes a) (no n) = no (λ h. n h.1)
both_decided (no n) b = no (λ h. n h.0)

-- whether two symbols are the same
unfoldable pub Symbol-discrete : Discrete Symbol
unfolding ℕ_discrete
Symbol-discrete (Function f) (Function g) = elim (ℕ_discrete f g) [ yes e ↦ yes (ap Function e) | no n ↦ no (λ h. n (cc)) ]
Symbol-discrete (Positive p) (Positive q) = elim (ℕ_discrete p q) [ yes e ↦ yes (ap Positive e) | no n ↦ no (λ h. n (cc)) ]
Symbol-discrete (Negative p) (Negative q) = elim (ℕ_discrete p q) [ yes e ↦ yes (ap Negative e) | no n ↦ no (λ h. n (cc)) ]
Symbol-discrete s t = no (λ h. cc)

-- whether two words begin with the same symbol and count of places
abbrev pub Alike : Symbol → Words → Symbol → Words → Type 0
Alike s us t vs = (s ≡ t) × (len us ≡ len vs)

unfoldable pub alike_decided : (s : Symbol) (us : Words) (t : Symbol) (vs : Words) → Dec (Alike s us t vs)
unfolding both_decided Symbol-discrete ℕ_discrete
alike_decided s us t vs = both_decided (Symbol-discrete s t) (ℕ_discrete (len us) (len vs))

-- whether two ordered pairs of words are the same
abbrev pub Same : Word × Word → Word × Word → Type 0
Same p q = (p.0 ≡ q.0) × (p.1 ≡ q.1)

unfoldable pub same_decided : (p q : Word × Word) → Dec (Same p q)
unfolding both_decided Symbol-discrete ℕ_discrete
same_decided p q = both_decided (Word-discrete ℕ_discrete Symbol-discrete p.0 q.0) (Word-discrete ℕ_discrete Symbol-discrete p.1 q.1)

-- the ordered pairs that have a variable, in the order in which they first stood; the variable of a pair is its place
abbrev pub Table : Type 0
Table = List (Word × Word)

abbrev pub place : Table → Word → Word → ℕ
place [] u v = 0
place (p ∷ T) u v = ite (same_decided (u, v) p) 0 (suc (place T u v))

-- a new pair comes last
abbrev pub enter : Table → Word → Word → Table
enter [] u v = (u, v) ∷ []
enter (p ∷ T) u v = p ∷ ite (same_decided (u, v) p) T (enter T u v)

-- two words join to the variable of their pair
abbrev pub stand : Word → Word → Table → Word × Table
stand u v T = (var (place T u v), enter T u v)

-- two words with the same symbol join to that symbol over the joins of their places, and any other two to the variable
-- of their pair; one table for all
abbrev mutual
  pub join : Word → Word → Table → Word × Table
  join (var x) v T = stand (var x) v T
  join (app s us) (var y) T = stand (app s us) (var y) T
  join (app s us) (app t vs) T =
      ite (alike_decided s us t vs) (let r = joins us vs T in (app s r.0, r.1)) (stand (app s us) (app t vs) T)

  pub joins : Words → Words → Table → Words × Table
  joins nil vs T = (nil, T)
  joins (cons u us) nil T = (nil, T)
  joins (cons u us) (cons v vs) T =
      let r = join u v T in let s = joins us vs r.1 in (cons r.0 s.0, s.1)
