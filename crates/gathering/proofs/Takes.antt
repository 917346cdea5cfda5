-- What a class has taken, call by call.
use Rattle.std.proofs.Common.{◌≡◌, ℕ, List, [], ◌∷◌, ◌++◌, Ok, Err, codes, sym, refl, ap, ◌∙◌, subst, arith}
use Rattle.class.specs.declared.classes.Class.{Class}
use Rattle.class.specs.declared.kind.Refusal.{Refusal}
use Rattle.class.specs.Calls.{Admitted}
use Rattle.class.specs.Kinds.{Least, Held}
use Rattle.class.specs.Runs.{Call, admit, fits, issue, gathers, rule, taken, Law}
use Rattle.class.proofs.Longer.{run-longer, taken-longer}
use Rattle.listing.specs.Shown.{shown}
use Rattle.place.specs.declared.placed.PlaceWord.{PlaceWord}
use Rattle.place.specs.Places.{meaning, places}
use Rattle.place.specs.Held.{held, within, join-is-least}
use Rattle.term.specs.Joins.{join}
use Rattle.term.specs.Words.{Word}
use Rattle.term.proofs.Kept.{join-narrow}
use Rattle.term.proofs.Leastness.{join-left}
use Rattle.term.proofs.Substitutions.{covers-size}
use Rattle.gathering.specs.Gathered.{Ruled}
use Rattle.gathering.specs.Lines.{taken_line}
use Rattle.gathering.specs.States.{Gathering}

-- the first place word, and one more
pub begins : (x : PlaceWord) (c : Class PlaceWord) → Law places x c → Gathering (meaning x ∷ []) c
begins x c l = record { first = x; begun = c; calls = []; law = l; run = refl; all = refl }

pub admits : (ms : List Word) (c : Class PlaceWord) (x : PlaceWord) (d : Class PlaceWord) → Gathering ms c → Admitted places c x (Ok tt) d → Gathering (meaning x ∷ ms) d
admits ms c x d g a = record {
  first = g.first;
  begun = g.begun;
  calls = g.calls ++ (admit x (Ok tt) ∷ []);
  law = g.law;
  run = run-longer places (gathers g.begun) g.calls (gathers c) (admit x (Ok tt)) (gathers d) g.run a;
  all = ap (λ (l : List Word). meaning x ∷ l) g.all ∙ sym (taken-longer places (meaning g.first ∷ []) g.calls (admit x (Ok tt)));
}

-- the join of two place words is within the limit, so no place word is refused
holds-join : (p q : PlaceWord) → Held places (meaning p ∷ meaning q ∷ [])
holds-join p q =
    let w = (join (meaning p) (meaning q) []).0 in
    (w, (omega (arith, covers-size w (meaning p) (join-left (meaning p) (meaning q)), (within p).0), join-narrow (meaning p) (meaning q) [] (within p).1), join-is-least p q w refl)

pub never-refused : (c : Class PlaceWord) (x : PlaceWord) (e : Refusal) (d : Class PlaceWord) → Admitted places c x (Err e) d → ⊥
never-refused c x e d a = a.1.0 (holds-join (rule (gathers c)) x)

-- a class has taken something
taken-some : (m : Word) (ms : List Word) (calls : List (Call PlaceWord)) → (n : Word) × (ns : List Word) × (taken places (m ∷ ms) calls ≡ n ∷ ns)
taken-some m ms [] = (m, ms, refl)
taken-some m ms (admit x (Ok _) ∷ calls) = taken-some (meaning x) (m ∷ ms) calls
taken-some m ms (admit x (Err e) ∷ calls) = taken-some m ms calls
taken-some m ms (fits x b ∷ calls) = taken-some m ms calls
taken-some m ms (issue ∷ calls) = taken-some m ms calls

gathering-some : (ms : List Word) (c : Class PlaceWord) → Gathering ms c → (n : Word) × (ns : List Word) × (ms ≡ n ∷ ns)
gathering-some ms c g = let s = taken-some (meaning g.first) [] g.calls in (s.0, s.1, g.all ∙ s.2)

-- so its line is that of one more
pub line-more : (ms : List Word) (c : Class PlaceWord) → Gathering ms c → taken_line ms ≡ codes "taken\n"
line-more ms c g = ap taken_line (gathering-some ms c g).2

-- the rule is the least word over what was taken
least : (ms : List Word) (c : Class PlaceWord) → Gathering ms c → Least places (meaning (rule (gathers c))) ms
least ms c g = subst (Least places (meaning (rule (gathers c)))) (sym g.all) (g.law g.calls (gathers c) g.run).1.least

pub ruled : (ms : List Word) (c : Class PlaceWord) (p : PlaceWord) (out : List ℕ) → Gathering ms c → p ≡ rule (gathers c)
    → out ≡ codes "rule " ++ (shown (meaning p) ++ codes "\n") → Ruled ([], ms) out
ruled ms c p out g e o =
    let s = gathering-some ms c g in
    let below = subst (λ (q : PlaceWord). Least places (meaning q) ms) (sym e) (least ms c g) in
    subst (λ (l : List Word). Ruled ([], l) out) (sym s.2)
    (meaning p, subst (Least places (meaning p)) s.2 below, (held p).order, o)
