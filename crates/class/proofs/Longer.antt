-- A run with one call more at its end.
use Rattle.std.proofs.Common.{◌≡◌, List, [], ◌∷◌, ◌++◌, refl, subst}
use Rattle.class.specs.Kinds.{Subject}
use Rattle.class.specs.Runs.{Call, State, Step, Run, took, taken}

module _ {Thing : Type 0} (k : Subject Thing) where
  pub run-longer : (s : State Thing) (calls : List (Call Thing)) (t : State Thing) (a : Call Thing) (u : State Thing) → Run k s calls t → Step k t a u → Run k s (calls ++ (a ∷ [])) u
  run-longer s [] t a u e h = (u, subst (λ (v : State Thing). Step k v a u) e h, refl)
  run-longer s (b ∷ calls) t a u w h = (w.0, w.1, run-longer w.0 calls t a u w.2 h)

  pub taken-longer : (ms : List k.member) (calls : List (Call Thing)) (a : Call Thing) → taken k ms (calls ++ (a ∷ [])) ≡ took k (taken k ms calls) a
  taken-longer ms [] a = refl
  taken-longer ms (b ∷ calls) a = taken-longer (took k ms b) calls a
