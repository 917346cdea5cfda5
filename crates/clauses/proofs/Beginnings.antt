-- Where the words of a list begin among their nodes, and one word more.
use Rattle.std.proofs.Common.{◌≡◌, ℕ, ◌+◌, ◌<◌, ◌≤◌, [], ◌∷◌, ◌++◌, All, length, refl, ap, ◌∙◌, arith}
use Rattle.std.proofs.lemmas.List.Elements.{All-nil, All-cons}
use Rattle.term.specs.Words.{Word, Words, nil, cons, ◌+++◌, len, size, sizes}
use Rattle.term.proofs.Substitutions.{size-pos}
use Rattle.clauses.specs.Beginnings.{begins}

-- a word more, and others after it
pub push-more : (us : Words) (w : Word) (vs : Words) → (us +++ cons w nil) +++ vs ≡ us +++ cons w vs
push-more nil w vs = refl
push-more (cons u us) w vs = ap (cons u) (push-more us w vs)

-- lengths
pub len-push : (us : Words) (w : Word) → len (us +++ cons w nil) ≡ len us + 1
len-push nil w = refl
len-push (cons u us) w = omega (arith, len-push us w)

pub sizes-push : (us : Words) (w : Word) → sizes (us +++ cons w nil) ≡ sizes us + size w
sizes-push nil w = omega arith
sizes-push (cons u us) w = omega (arith, sizes-push us w)

pub length-begins : (at : ℕ) (us : Words) → length (begins at us) ≡ len us
length-begins at nil = refl
length-begins at (cons u us) = omega (arith, length-begins (at + size u) us)

pub begins-push : (at : ℕ) (us : Words) (w : Word) → begins at (us +++ cons w nil) ≡ begins at us ++ (at + sizes us) ∷ []
begins-push at nil w = let z : at ≡ at + 0 = omega arith in ap (λ (n : ℕ). n ∷ []) z
begins-push at (cons u us) w =
    let z : at + size u + sizes us ≡ at + (size u + sizes us) = omega arith in
    ap (◌∷◌ at) (begins-push (at + size u) us w ∙ ap (λ (n : ℕ). begins (at + size u) us ++ n ∷ []) z)

-- places before a bound
pub inside-begins : (at n : ℕ) (us : Words) → at + sizes us ≤ n → All (λ i. i < n) (begins at us)
inside-begins at n nil h = All-nil (λ i. i < n)
inside-begins at n (cons u us) h = All-cons (λ i. i < n) at (begins (at + size u) us) (omega (arith, size-pos u)) (inside-begins (at + size u) n us (omega arith))
