-- Words read after others.
use Rattle.std.proofs.Common.{◌≡◌, ℕ, zero, suc, ◌+◌, List, [], ◌∷◌, ◌++◌, Ok, Err, Result, sym, refl, ap, ◌∙◌, append_assoc, append-nil}
use Rattle.number.specs.Reads.{read_number}
use Rattle.number.proofs.Answers.{clash, ok_same}
use Rattle.term.specs.Coding.{code, codes}
use Rattle.term.specs.Lawful.{stood}
use Rattle.term.specs.Words.{Word, var, app, Words, nil, cons, vars, varss}
use Rattle.term.specs.declared.node.Node.{Node}
use Rattle.term.proofs.Laws.{stood-more}
use Rattle.word.specs.declared.fault.WordFault.{WordFault}
use Rattle.word.specs.declared.fault.WordFault.TheVariants.{Number}
use Rattle.word.specs.Packed.{seen_after}
use Rattle.word.specs.Reads.{node_at, read_words}
use Rattle.word.specs.Then.{then}
use Rattle.word.proofs.Laws.{seen_none}

-- nodes that stand before the words do not matter
abbrev pub fronted : List Node → Result (List Node × ℕ × ℕ) WordFault → Result (List Node × ℕ × ℕ) WordFault
fronted front (Ok p) = Ok (front ++ p.0, p.1, p.2)
fronted front (Err fault) = Err fault

then-fronted : {X E : Type 0} (front : List Node) (f : E → WordFault) (r : Result X E) (next on : X → Result (List Node × ℕ × ℕ) WordFault) → ((x : X) → on x ≡ fronted front (next x))
    → then f r on ≡ fronted front (then f r next)
then-fronted front f (Ok x) next on h = h x
then-fronted front f (Err e) next on h = refl

words-fronted : (need room seen : ℕ) (input : List ℕ) (at : ℕ) (front acc : List Node) → read_words need room seen input at (front ++ acc) ≡ fronted front (read_words need room seen input at acc)
unfolding read_words
words-fronted zero room seen input at front acc = refl
words-fronted (suc need) zero seen input at front acc = then-fronted front Number (read_number input at) _ _ (λ _. refl)
words-fronted (suc need) (suc room) seen input at front acc =
    then-fronted front Number (read_number input at) _ _
    (λ p. then-fronted front (λ e. e) (node_at seen input at p.0 p.1) _ _
    (λ r.
    ap (read_words (need + r.places) room r.seen input r.next) (append_assoc front acc (r.node ∷ []))
    ∙ words-fronted (need + r.places) room r.seen input r.next front (acc ++ r.node ∷ [])))

-- words read after others, as words read alone
pub words-alone : (need room seen : ℕ) (input : List ℕ) (at : ℕ) (front after : List Node) (to new : ℕ) → read_words need room seen input at front ≡ Ok (after, to, new)
    → (nodes : List Node) × (read_words need room seen input at [] ≡ Ok (nodes, to, new)) × (after ≡ front ++ nodes)
words-alone need room seen input at front after to new e =
    unfronted front (read_words need room seen input at []) (sym (words-fronted need room seen input at front []) ∙ ap (read_words need room seen input at) (append-nil front) ∙ e)
  where
    unfronted : (front : List Node) (R : Result (List Node × ℕ × ℕ) WordFault) → fronted front R ≡ Ok (after, to, new) → (nodes : List Node) × (R ≡ Ok (nodes, to, new)) × (after ≡ front ++ nodes)
    unfronted front (Ok p) h =
        let same = ok_same (front ++ p.0, p.1, p.2) (after, to, new) h in
        (p.0, λ i. Ok (p.0, (same i).1, (same i).2), λ i. (sym same i).0)
    unfronted front (Err fault) h = absurd (clash fault (after, to, new) h)

pub fault-alone : (need room seen : ℕ) (input : List ℕ) (at : ℕ) (front : List Node) (fault : WordFault) → read_words need room seen input at front ≡ Err fault → read_words need room seen input at [] ≡ Err fault
fault-alone need room seen input at front fault e =
    unfronted (read_words need room seen input at []) (sym (words-fronted need room seen input at front []) ∙ ap (read_words need room seen input at) (append-nil front) ∙ e)
  where
    unfronted : (R : Result (List Node × ℕ × ℕ) WordFault) → fronted front R ≡ Err fault → R ≡ Err fault
    unfronted (Ok p) h = absurd (clash fault (front ++ p.0, p.1, p.2) (sym h))
    unfronted (Err d) h = h

-- the variables that have stood are those of the words
mutual
  unfolding seen_after

  seen-code : (u : Word) (nodes : List Node) (seen : ℕ) → seen_after (code u ++ nodes) seen ≡ seen_after nodes (stood seen (vars u))
  seen-code (var x) nodes seen = refl
  seen-code (app s us) nodes seen = seen-codes us nodes seen

  seen-codes : (us : Words) (nodes : List Node) (seen : ℕ) → seen_after (codes us ++ nodes) seen ≡ seen_after nodes (stood seen (varss us))
  seen-codes nil nodes seen = refl
  seen-codes (cons u us) nodes seen =
      ap (λ (l : List Node). seen_after l seen) (append_assoc (code u) (codes us) nodes)
      ∙ seen-code u (codes us ++ nodes) seen
      ∙ seen-codes us nodes (stood seen (vars u))
      ∙ ap (seen_after nodes) (sym (stood-more seen (vars u) (varss us)))

pub seen_all : (us : Words) (seen : ℕ) → seen_after (codes us) seen ≡ stood seen (varss us)
seen_all us seen = ap (λ (l : List Node). seen_after l seen) (sym (append-nil (codes us))) ∙ seen-codes us [] seen ∙ seen_none (stood seen (varss us))
