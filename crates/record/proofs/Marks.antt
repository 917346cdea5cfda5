-- Marks of literals: a word whose mark is not set is none of those that are marked.
use Rattle.std.proofs.Common.{◌≡◌, ℕ, ◌<◌, Bool, true, false, List, length, get_or, set, sym, refl, ap, ◌∙◌}
use Rattle.std.proofs.Math.Decide.{ℕ_discrete}
use Rattle.std.proofs.lemmas.Bool.{true≢false, false_from_ne_true}
use Rattle.std.proofs.lemmas.List.{get_or-set_same, get_or-set_other}
use Rattle.term.specs.Coding.{code}
use Rattle.term.specs.Joins.{Symbol-discrete}
use Rattle.term.specs.Words.{Word, Words, nil, cons, ◌+++◌, Word-discrete}
use Rattle.word.specs.Packed.{packed}
use Rattle.record.specs.Clauses.{stands}
use Rattle.record.specs.Marks.{mark_of, Marked}
use Rattle.record.proofs.Places.{stands-push}

pub unmarked : (us : Words) (l : Word) (marks : List Bool) → Marked us marks → get_or marks (mark_of (packed (code l))) false ≡ false → stands l us ≡ false
unmarked us l marks m n = false_from_ne_true (stands l us) (λ e. true≢false (sym (m l e) ∙ n))

-- a mark that is set stays so
set_kept : (marks : List Bool) (i j : ℕ) → i < length marks → get_or marks j false ≡ true → get_or (set marks i true) j false ≡ true
set_kept marks i j h e = go (ℕ_discrete j i)
  where
    go : Dec (j ≡ i) → get_or (set marks i true) j false ≡ true
    go (yes p) = ap (λ (n : ℕ). get_or (set marks i true) n false) p ∙ get_or-set_same marks i true false h
    go (no n) = get_or-set_other marks i j true false n ∙ e

-- the mark of one word more is set
pub marked-push : (us : Words) (l : Word) (marks : List Bool) (i : ℕ) → i ≡ mark_of (packed (code l)) → i < length marks → Marked us marks → Marked (us +++ cons l nil) (set marks i true)
marked-push us l marks i is h m w stood = go (Word-discrete ℕ_discrete Symbol-discrete w l) (stands w us) refl
  where
    go : Dec (w ≡ l) → (b : Bool) → stands w us ≡ b → get_or (set marks i true) (mark_of (packed (code w))) false ≡ true
    go (yes p) b e = ap (λ (n : ℕ). get_or (set marks i true) n false) (ap (λ (v : Word). mark_of (packed (code v))) p ∙ sym is) ∙ get_or-set_same marks i true false h
    go (no n) true e = set_kept marks i (mark_of (packed (code w))) h (m w e)
    go (no n) false e = absurd (true≢false (sym stood ∙ stands-push w l us e n))
