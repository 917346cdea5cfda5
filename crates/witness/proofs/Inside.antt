-- Each entry of a witness is a node of the mount.
use Rattle.std.proofs.Common.{◌≡◌, ℕ, zero, suc, ◌+◌, ◌<◌, ◌≤◌, Bool, true, false, cond, eqb, List, [], ◌∷◌, ◌++◌, get_or, Some, Option, arith}
use Rattle.std.specs.List.{All, AllZip, find, slice_get}
use Rattle.std.proofs.lemmas.List.{get_or_default}
use Rattle.std.proofs.lemmas.Option.{slice_get_within}
use Rattle.clauses.specs.Beginnings.{begins}
use Rattle.clauses.specs.Clauses.{each}
use Rattle.clauses.proofs.Each.{length-each}
use Rattle.record.specs.Clauses.{variables}
use Rattle.term.specs.Words.{Word, var, app, Words, nil, cons, len, size, sizes, sub}
use Rattle.term.proofs.Substitutions.{size-pos}
use Rattle.witness.specs.Witness.{met, mets, meetings, Witness}

-- what is found is below n, where all nodes are
abbrev Below : ℕ → List (ℕ × ℕ) → Type 0
Below n [] = Unit {0}
Below n (p ∷ ps) = (p.1 < n) × Below n ps

below-both : (n : ℕ) (ps qs : List (ℕ × ℕ)) → Below n ps → Below n qs → Below n (ps ++ qs)
below-both n [] qs h k = k
below-both n (p ∷ ps) qs h k = (h.0, below-both n ps qs h.1 k)

found-either : (n : ℕ) (b : Bool) (q p : ℕ × ℕ) (o : Option (ℕ × ℕ)) → q.1 < n → (o ≡ Some p → p.1 < n) → cond b (Some q) o ≡ Some p → p.1 < n
found-either n true q p o here rest e = let z : q ≡ p = cc in rw (← z) here
found-either n false q p o here rest e = rest e

below-found : (n : ℕ) (t : ℕ × ℕ → Bool) (ps : List (ℕ × ℕ)) (p : ℕ × ℕ) → Below n ps → find t ps ≡ Some p → p.1 < n
below-found n t [] p h e = cc
below-found n t (q ∷ qs) p h e = found-either n (t q) q p (find t qs) h.0 (below-found n t qs p h.1) e

mutual
  met-below : (n : ℕ) (u w : Word) (at : ℕ) → at + size w ≤ n → Below n (met u w at)
  met-below n (var x) w at h = (omega (arith, size-pos w), tt)
  met-below n (app s us) (var y) at h = tt
  met-below n (app s us) (app t ws) at h = mets-below n us ws (at + 1) (omega arith)

  mets-below : (n : ℕ) (us ws : Words) (at : ℕ) → at + sizes ws ≤ n → Below n (mets us ws at)
  mets-below n nil ws at h = tt
  mets-below n (cons u us) nil at h = tt
  mets-below n (cons u us) (cons w ws) at h =
      below-both n (met u w at) (mets us ws (at + size w)) (met-below n u w at (omega arith)) (mets-below n us ws (at + size w) (omega arith))

-- a literal ends by the end
ends : (at : ℕ) (ls : Words) (j : ℕ) → j < len ls → get_or (begins at ls) j 0 + size (get_or (each ls) j (var 0)) ≤ at + sizes ls
ends at nil j h = absurd (omega arith)
ends at (cons l ls) zero h = omega arith
ends at (cons l ls) (suc j) h = omega (arith, ends (at + size l) ls j (omega arith))

module _ (mount : Words) (θ : ℕ → Word) where
  meetings-below : (rule : List Word) (choice : List ℕ) → AllZip (λ l j. slice_get (each mount) j ≡ Some (sub θ l)) rule choice → Below (sizes mount) (meetings rule mount choice)
  meetings-below [] [] h = tt
  meetings-below [] (j ∷ js) h = absurd h
  meetings-below (l ∷ ls) [] h = absurd h
  meetings-below (l ∷ ls) (j ∷ js) h =
      let lt : j < len mount = omega (arith, slice_get_within (each mount) j (sub θ l) h.0, length-each mount) in
      below-both (sizes mount) (met l (get_or (each mount) j (var 0)) (get_or (begins 0 mount) j 0)) (meetings ls mount js)
      (met-below (sizes mount) l (get_or (each mount) j (var 0)) (get_or (begins 0 mount) j 0) (omega (arith, ends 0 mount j lt)))
      (meetings-below ls js h.1)

pub inside : (rule mount : Words) (list : List ℕ) → Witness rule mount list → (x : ℕ) → x < variables rule → get_or list x 0 < sizes mount
inside rule mount list w x h = below-found (sizes mount) (λ p. eqb p.0 x) (meetings (each rule) mount w.0) (x, get_or list x 0) (meetings-below mount w.1.0.0 (each rule) w.0 w.1.0.1) (w.3 x h)

pub All-inside : (rule mount : Words) (list : List ℕ) → Witness rule mount list → All (λ q. q < sizes mount) list
All-inside rule mount list w k d lt = rw (get_or_default list k d 0 lt) (inside rule mount list w k (omega (arith, w.2)))
