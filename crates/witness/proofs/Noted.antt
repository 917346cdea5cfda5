-- What is noted where variables are numbered by their first standing: for each the node that first met it.
use Rattle.std.proofs.Common.{◌≡◌, ℕ, suc, ◌+◌, ◌<◌, ◌≤◌, max, eqb, List, [], ◌∷◌, ◌++◌, map, length, get_or, set, take, drop, Some, sym, refl, ap, ◌∙◌, subst, ap₂, ⊎_elim, arith}
use Rattle.std.specs.List.{AllZip, find, slice_get}
use Rattle.std.proofs.lemmas.Bool.{cases_eq, eqb-true, eqb-false, eq-eqb, ne_eqb, cond_both}
use Rattle.std.proofs.lemmas.List.{map-append, length-take-le, get_or-take, drop-set-lt, get_or-set_same, get_or-set_other, length-set}
use Rattle.std.proofs.lemmas.Option.{get_or_from_slice_get}
use Rattle.clauses.specs.Clauses.{each}
use Rattle.clauses.specs.Beginnings.{begins}
use Rattle.record.specs.Clauses.{variables}
use Rattle.subsume.specs.FirstChoices.{Chooses, FirstChoice}
use Rattle.term.specs.Lawful.{Numbered, stood}
use Rattle.term.specs.Words.{Word, var, app, Words, nil, cons, size, vars, varss, sub, subs}
use Rattle.witness.specs.Steps.{noted}
use Rattle.witness.specs.Witness.{met, mets, meetings, Witness}
use Rattle.witness.proofs.Occurring.{le-stood}

-- the variables that are met
abbrev pub variables_met : List (ℕ × ℕ) → List ℕ
variables_met ps = map (λ p. p.0) ps

mutual
  met-variables : (θ : ℕ → Word) (u : Word) (at : ℕ) → variables_met (met u (sub θ u) at) ≡ vars u
  met-variables θ (var x) at = refl
  met-variables θ (app s us) at = mets-variables θ us (at + 1)

  mets-variables : (θ : ℕ → Word) (us : Words) (at : ℕ) → variables_met (mets us (subs θ us) at) ≡ varss us
  mets-variables θ nil at = refl
  mets-variables θ (cons u us) at =
      map-append (λ (p : ℕ × ℕ). p.0) (met u (sub θ u) at) (mets us (subs θ us) (at + size (sub θ u)))
      ∙ ap₂ ◌++◌ (met-variables θ u at) (mets-variables θ us (at + size (sub θ u)))

pub meetings-variables : (rule mount : Words) (choice : List ℕ) → Chooses (each rule) (each mount) choice → variables_met (meetings (each rule) mount choice) ≡ varss rule
meetings-variables rule mount choice c = go rule choice c.1
  where
    go : (us : Words) (js : List ℕ) → AllZip (λ l j. slice_get (each mount) j ≡ Some (sub c.0 l)) (each us) js → variables_met (meetings (each us) mount js) ≡ varss us
    go nil js h = refl
    go (cons u us) [] h = absurd h
    go (cons u us) (j ∷ js) h =
        let w = get_or (each mount) j (var 0) in
        let at = get_or (begins 0 mount) j 0 in
        let same : w ≡ sub c.0 u = get_or_from_slice_get (each mount) j (sub c.0 u) (var 0) h.0 in
        map-append (λ (p : ℕ × ℕ). p.0) (met u w at) (meetings (each us) mount js)
        ∙ ap₂ ◌++◌ (ap (λ (v : Word). variables_met (met u v at)) same ∙ met-variables c.0 u at) (go us js h.1)

-- the first pair: the next variable, or one that stood before
module _ (p : ℕ × ℕ) (seen : ℕ) where
  next-seen : p.0 ≡ seen → max seen (suc p.0) ≡ seen + 1
  next-seen e = omega arith

  old-seen : (p.0 ≡ seen → ⊥) → p.0 ≤ seen → max seen (suc p.0) ≡ seen
  old-seen n h = omega arith

-- what is beyond is left alone
pub noted-beyond : (ps : List (ℕ × ℕ)) (seen : ℕ) (list : List ℕ) (n : ℕ) → Numbered seen (variables_met ps) → stood seen (variables_met ps) ≤ n → drop n (noted ps seen list).1 ≡ drop n list
noted-beyond [] seen list n o h = refl
noted-beyond (p ∷ ps) seen list n o h =
    let vs = variables_met ps in
    cond_both (eqb p.0 seen) (noted ps (seen + 1) (set list seen p.1)) (noted ps seen list) (λ (r : ℕ × List ℕ). drop n r.1 ≡ drop n list)
    (λ e.
    let z = next-seen p seen (eqb-true p.0 seen e) in
    let o' : Numbered (seen + 1) vs = subst (λ (m : ℕ). Numbered m vs) z o.1 in
    let h' : stood (seen + 1) vs ≤ n = subst (λ (m : ℕ). stood m vs ≤ n) z h in
    noted-beyond ps (seen + 1) (set list seen p.1) n o' h' ∙ drop-set-lt n list seen p.1 (omega (arith, le-stood (seen + 1) vs)))
    (λ e.
    let z = old-seen p seen (eqb-false p.0 seen e) o.0 in
    noted-beyond ps seen list n (subst (λ (m : ℕ). Numbered m vs) z o.1) (subst (λ (m : ℕ). stood m vs ≤ n) z h))

-- what was noted stays
noted-kept : (ps : List (ℕ × ℕ)) (seen : ℕ) (list : List ℕ) (x : ℕ) → x < seen → get_or (noted ps seen list).1 x 0 ≡ get_or list x 0
noted-kept [] seen list x h = refl
noted-kept (p ∷ ps) seen list x h =
    cond_both (eqb p.0 seen) (noted ps (seen + 1) (set list seen p.1)) (noted ps seen list) (λ (r : ℕ × List ℕ). get_or r.1 x 0 ≡ get_or list x 0)
    (λ _. noted-kept ps (seen + 1) (set list seen p.1) x (omega arith) ∙ get_or-set_other list seen x p.1 0 (omega arith))
    (λ _. noted-kept ps seen list x h)

-- each variable that is met has the node that first met it
pub noted-finds : (ps : List (ℕ × ℕ)) (seen : ℕ) (list : List ℕ) → Numbered seen (variables_met ps) → stood seen (variables_met ps) ≤ length list → (x : ℕ) → seen ≤ x → x < stood seen (variables_met ps)
    → find (λ p. eqb p.0 x) ps ≡ Some (x, get_or (noted ps seen list).1 x 0)
noted-finds [] seen list o h x l m = absurd (omega arith)
noted-finds (p ∷ ps) seen list o h x l m =
    let vs = variables_met ps in
    cond_both (eqb p.0 seen) (noted ps (seen + 1) (set list seen p.1)) (noted ps seen list) (λ (r : ℕ × List ℕ). find (λ p. eqb p.0 x) (p ∷ ps) ≡ Some (x, get_or r.1 x 0))
    (λ e.
    let first = eqb-true p.0 seen e in
    let z = next-seen p seen first in
    let list' = set list seen p.1 in
    let h' : stood (seen + 1) vs ≤ length list = subst (λ (m : ℕ). stood m vs ≤ length list) z h in
    ⊎_elim
    (λ (s : x ≡ seen).
    let here : get_or (noted ps (seen + 1) list').1 x 0 ≡ p.1 =
    noted-kept ps (seen + 1) list' x (omega arith) ∙ ap (λ (y : ℕ). get_or list' y 0) s ∙ get_or-set_same list seen p.1 0 (omega (arith, le-stood (seen + 1) vs)) in
    rw (eq-eqb p.0 x (first ∙ sym s)) (ap₂ (λ (y v : ℕ). Some (y, v)) (first ∙ sym s) (sym here)))
    (λ n.
    rw (ne_eqb p.0 x (λ s. n (sym s ∙ first)))
    (noted-finds ps (seen + 1) list' (subst (λ (m : ℕ). Numbered m vs) z o.1) (omega (arith, length-set list seen p.1)) x (omega arith) (subst (λ (k : ℕ). x < stood k vs) z m)))
    (cases_eq x seen))
    (λ e.
    let n = eqb-false p.0 seen e in
    let z = old-seen p seen n o.0 in
    let older : p.0 ≡ x → ⊥ = λ s. n (omega (arith, o.0)) in
    rw (ne_eqb p.0 x older)
    (noted-finds ps seen list (subst (λ (m : ℕ). Numbered m vs) z o.1) (subst (λ (m : ℕ). stood m vs ≤ length list) z h) x l (subst (λ (k : ℕ). x < stood k vs) z m)))

-- what is noted under the first choice
module _ (rule mount : Words) (choice before after : List ℕ) (n : ℕ) (order : Numbered 0 (varss rule)) (all : n ≡ variables rule) (first : FirstChoice (each rule) (each mount) choice)
    (made : (noted (meetings (each rule) mount choice) 0 before).1 ≡ after) where
  same : variables_met (meetings (each rule) mount choice) ≡ varss rule
  same = meetings-variables rule mount choice first.0

  count : stood 0 (variables_met (meetings (each rule) mount choice)) ≡ n
  count = ap (stood 0) same ∙ sym all

  numbered : Numbered 0 (variables_met (meetings (each rule) mount choice))
  numbered = subst (Numbered 0) (sym same) order

  pub witness-noted : n ≤ length before → length after ≡ length before → Witness rule mount (take n after)
  witness-noted h long = (
    choice,
    first,
    length-take-le n after (omega arith) ∙ all,
    λ x l.
        noted-finds (meetings (each rule) mount choice) 0 before numbered (omega (arith, count)) x (omega arith) (omega (arith, count))
        ∙ ap (λ (y : ℕ). Some (x, y)) (ap (λ (l : List ℕ). get_or l x 0) made ∙ sym (get_or-take n after x 0 (omega arith))),
  )

  pub witness-beyond : drop n after ≡ drop n before
  witness-beyond = ap (drop n) (sym made) ∙ noted-beyond (meetings (each rule) mount choice) 0 before n numbered (omega (arith, count))
