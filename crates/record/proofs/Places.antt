-- Literals among the nodes of a record: where they begin, and that none stands twice.
use Rattle.std.proofs.Common.{◌≡◌, ℕ, ◌+◌, Bool, true, false, not, List, [], ◌++◌, length, sym, refl, ap, ◌∙◌, ap₂, append_assoc, append-nil, arith, length-append}
use Rattle.std.proofs.Math.Decide.{ℕ_discrete}
use Rattle.std.proofs.lemmas.List.{drop_at}
use Rattle.std.proofs.lemmas.Bool.{and_parts, and_from, not-true, not_from_false, true≢false}
use Rattle.term.specs.Coding.{code, codes, hd, decode, word_at}
use Rattle.term.specs.Joins.{Symbol-discrete}
use Rattle.term.specs.Words.{Word, Words, nil, cons, ◌+++◌, size, Word-discrete}
use Rattle.term.specs.declared.node.Node.{Node}
use Rattle.term.proofs.Cases.{by-test, test-yes, test-no}
use Rattle.term.proofs.Codings.{decode-code, length-code}
use Rattle.record.specs.Clauses.{stands, distinct}
use Rattle.clauses.specs.Beginnings.{begins}
use Rattle.record.specs.Reads.{words_from}

-- the words that begin there
pub from-begins : (us : Words) (front rest : List Node) → words_from (front ++ (codes us ++ rest)) (begins (length front) us) ≡ us
from-begins nil front rest = refl
from-begins (cons u us) front rest =
    let split : codes (cons u us) ++ rest ≡ code u ++ (codes us ++ rest) = append_assoc (code u) (codes us) rest in
    let here : word_at (front ++ (codes (cons u us) ++ rest)) (length front) ≡ u =
    ap (λ (l : List Node). hd (decode l)) (drop_at front (codes (cons u us) ++ rest) (length front) refl ∙ split) ∙ ap hd (decode-code u (codes us ++ rest)) in
    let all : front ++ (codes (cons u us) ++ rest) ≡ (front ++ code u) ++ (codes us ++ rest) = ap (λ (l : List Node). front ++ l) split ∙ sym (append_assoc front (code u) (codes us ++ rest)) in
    let next : length front + size u ≡ length (front ++ code u) = omega (arith, length-append front (code u), length-code u) in
    ap₂ cons here (ap₂ (λ (l : List Node) (n : ℕ). words_from l (begins n us)) all next ∙ from-begins us (front ++ code u) rest)

pub from_all : (us : Words) → words_from (codes us) (begins 0 us) ≡ us
from_all us = ap (λ (l : List Node). words_from l (begins 0 us)) (sym (append-nil (codes us))) ∙ from-begins us [] []

-- whether a word is one of others
pub stands-none : (w : Word) → stands w nil ≡ false
unfolding stands
stands-none w = refl

pub stands-first : (w u : Word) (us : Words) → w ≡ u → stands w (cons u us) ≡ true
unfolding stands
stands-first w u us e = test-yes (Word-discrete ℕ_discrete Symbol-discrete w u) true (stands w us) e

pub stands-later : (w u : Word) (us : Words) → ¬ (w ≡ u) → stands w (cons u us) ≡ stands w us
unfolding stands
stands-later w u us n = test-no (Word-discrete ℕ_discrete Symbol-discrete w u) true (stands w us) n

stands-not : (w u : Word) (us : Words) → stands w (cons u us) ≡ false → ¬ (w ≡ u) × (stands w us ≡ false)
stands-not w u us h =
    let n : ¬ (w ≡ u) = λ e. true≢false (sym (stands-first w u us e) ∙ h) in
    (n, sym (stands-later w u us n) ∙ h)

pub stands-push : (w v : Word) (us : Words) → stands w us ≡ false → ¬ (w ≡ v) → stands w (us +++ cons v nil) ≡ false
unfolding stands
stands-push w v nil h n = stands-later w v nil n
stands-push w v (cons u us) h n = let p = stands-not w u us h in stands-later w u (us +++ cons v nil) p.0 ∙ stands-push w v us p.1 n

-- a word more, which is none of the others
pub distinct_push : (us : Words) (w : Word) → distinct us ≡ true → stands w us ≡ false → distinct (us +++ cons w nil) ≡ true
unfolding distinct stands
distinct_push nil w d h = refl
distinct_push (cons u us) w d h =
    let p = and_parts (not (stands u us)) (distinct us) d in
    let q = stands-not w u us h in
    and_from _ _ (not_from_false _ (stands-push u w us (not-true (stands u us) p.0) (λ e. q.0 (sym e)))) (distinct_push us w p.1 q.1)

among : (us : Words) (u w : Word) (vs : Words) → u ≡ w → stands u (us +++ cons w vs) ≡ true
unfolding stands
among nil u w vs e = stands-first u w vs e
among (cons v us) u w vs e = by-test (λ (b : Bool). b ≡ true) (Word-discrete ℕ_discrete Symbol-discrete u v) (λ _. refl) (λ _. among us u w vs e)

-- of distinct words none stands among those before it
pub distinct-parts : (us : Words) (w : Word) (vs : Words) → distinct (us +++ cons w vs) ≡ true → stands w us ≡ false
unfolding distinct stands
distinct-parts nil w vs d = refl
distinct-parts (cons u us) w vs d =
    let p = and_parts (not (stands u (us +++ cons w vs))) (distinct (us +++ cons w vs)) d in
    let apart : ¬ (w ≡ u) = λ e. true≢false (sym (among us u w vs (sym e)) ∙ not-true (stands u (us +++ cons w vs)) p.0) in
    stands-later w u us apart ∙ distinct-parts us w vs p.1
