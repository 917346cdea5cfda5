-- The packed form of a clause is read as this clause.
use Rattle.std.proofs.Common.{◌≡◌, ℕ, suc, ◌+◌, ◌-◌, ◌*◌, ◌/◌, ◌%◌, ◌<◌, ◌≤◌, max, true, false, List, [], ◌∷◌, ◌++◌, length, drop, Ok, sym, refl, ap, ◌∙◌, subst, append_assoc, append-nil, arith, length-append}
use Rattle.std.proofs.lemmas.Bool.{eq-eqb, ne_eqb, le-leb, leb-true, lt-ltb, le-ltb, false≢true}
use Rattle.number.specs.Forms.{form}
use Rattle.number.specs.Reads.{read_number}
use Rattle.term.specs.Coding.{code, codes}
use Rattle.term.specs.Lawful.{Numbered, stood}
use Rattle.term.specs.Words.{Word, var, app, Words, nil, cons, ◌+++◌, len, size, sizes, vars, varss}
use Rattle.term.specs.declared.node.Node.TheVariants.{Applied}
use Rattle.term.specs.declared.node.Symbol.{Symbol}
use Rattle.term.specs.declared.node.Symbol.TheVariants.{Function, Positive, Negative}
use Rattle.term.proofs.Codings.{all_words, decode-all, length-codes}
use Rattle.term.proofs.Laws.{numbered-parts, stood-more, lawful-all}
use Rattle.std.proofs.lemmas.List.Elements.{All-nil, All-cons, All-append}
use Rattle.word.specs.Packed.{packed_symbol, packed_node, packed, symbol_number, Small, Writable}
use Rattle.word.proofs.Back.{reads_at, beyond, reads-packed}
use Rattle.word.proofs.Laws.{packed_none, packed_more, packed-append, lawful-writable}
use Rattle.record.specs.Clauses.{predicative, Literal, Literals, variables, stands, distinct, Clause}
use Rattle.record.specs.Reads.{predicate_of, head_at, read_literal, read_literals, read_record, clause_form}
use Rattle.record.proofs.Tests.{varss-push, order-push}
use Rattle.record.proofs.Places.{distinct-parts}
use Rattle.clauses.proofs.Beginnings.{sizes-push, push-more}
use Rattle.record.proofs.Turns.{literals-none, literals-more}

-- the number of variables is at most that of nodes
stood-few : (n : ℕ) (xs : List ℕ) → Numbered n xs → stood n xs ≤ n + length xs
stood-few n [] o = omega arith
stood-few n (x ∷ xs) o = omega (arith, o.0, stood-few (max n (suc x)) xs o.1)

mutual
  vars-few : (u : Word) → length (vars u) ≤ size u
  vars-few (var x) = omega arith
  vars-few (app s us) = omega (arith, varss-few us)

  varss-few : (us : Words) → length (varss us) ≤ sizes us
  varss-few nil = omega arith
  varss-few (cons u us) = omega (arith, length-append (vars u) (varss us), vars-few u, varss-few us)

-- the nodes of a clause are writable
symbol-small : (s : Symbol) → predicative s ≡ true → symbol_number s ≤ 32767
symbol-small (Function f) e = absurd (false≢true e)
symbol-small (Positive p) e = leb-true p 32767 e
symbol-small (Negative p) e = leb-true p 32767 e

pub clause-writable : (ls : Words) (seen : ℕ) → Literals ls → Numbered seen (varss ls) → seen + sizes ls ≤ 32768 → Writable (codes ls)
clause-writable nil seen l o h = All-nil Small
clause-writable (cons (var x) ls) seen l o h = absurd l.0
clause-writable (cons (app s us) ls) seen l o h =
    let p = numbered-parts seen (varss us) (varss ls) o in
    All-cons Small (Applied s (len us)) (codes us ++ codes ls) (symbol-small s l.0.0)
    (All-append Small (codes us) (codes ls)
    (lawful-writable (codes us) (len us) seen (lawful-all us seen p.0 l.0.2) (omega (arith, length-codes us)))
    (clause-writable ls (stood seen (varss us)) l.1 p.1 (omega (arith, stood-few seen (varss us) p.0, varss-few us))))

-- a predicate is that of its first number, which is small
predicate-back : (s : Symbol) → predicative s ≡ true → (predicate_of (packed_symbol s) ≡ s) × (packed_symbol s ≤ 65535)
predicate-back (Function f) e = absurd (false≢true e)
predicate-back (Positive p) e =
    let even : 2 * p % 2 ≡ 0 = omega arith in
    let half : 2 * p / 2 ≡ p = omega arith in
    (rw (eq-eqb (2 * p % 2) 0 even, half), omega (arith, leb-true p 32767 e))
predicate-back (Negative p) e =
    let half : (2 * p + 1) / 2 ≡ p = omega arith in
    (rw (ne_eqb ((2 * p + 1) % 2) 0 (λ z. omega arith), half), omega (arith, leb-true p 32767 e))

head-back : (held : ℕ) (s : Symbol) (k : ℕ) (input rest : List ℕ) (at : ℕ) → predicative s ≡ true → k ≤ 8 → held < 256 → drop at input ≡ packed_node (Applied s k) ++ rest
    → head_at held input at ≡ Ok (record { symbol = s; places = k; next = at + length (packed_node (Applied s k)) })
unfolding head_at
head-back held s k input rest at p few room here =
    let one = form (packed_symbol s) in
    let two = form k in
    let next = at + length one in
    let back = predicate-back s p in
    let split : drop at input ≡ one ++ (two ++ rest) = here ∙ append_assoc one two rest in
    let first : read_number input at ≡ Ok (packed_symbol s, next) = reads_at input (two ++ rest) at (packed_symbol s) back.1 split in
    let second : read_number input next ≡ Ok (k, next + length two) = reads_at input rest next k (omega arith) (beyond input one (two ++ rest) at split) in
    let end : next + length two ≡ at + length (one ++ two) = omega (arith, length-append one two) in
    rw (first, lt-ltb held 256 room, second, le-leb k 8 few, back.0, end)

pub literal-back : (before : Words) (l : Word) (input rest : List ℕ) (at : ℕ) → Numbered 0 (varss before) → Literal l → Numbered (variables before) (vars l) → stands l before ≡ false → sizes before + size l ≤ 256
    → drop at input ≡ packed (code l) ++ rest → read_literal before input at ≡ Ok (l, at + length (packed (code l)))
unfolding read_literal
literal-back before (var x) input rest at o l p new small here = absurd l
literal-back before (app s us) input rest at o l p new small here =
    let node = Applied s (len us) in
    let head = packed_node node in
    let words = packed (codes us) in
    let all : packed (code (app s us)) ≡ head ++ words = packed_more node (codes us) in
    let split : drop at input ≡ head ++ (words ++ rest) = here ∙ ap (λ (b : List ℕ). b ++ rest) all ∙ append_assoc head words rest in
    let next = at + length head in
    let started = head-back (sizes before) s (len us) input (words ++ rest) at l.0 l.1 (omega arith) split in
    let lawfully = lawful-all us (variables before) p l.2 in
    let long = length-codes us in
    let few : variables before ≤ 256 = omega (arith, stood-few 0 (varss before) o, varss-few before) in
    let read = reads-packed (codes us) (len us) (256 - suc (sizes before)) (variables before) input rest next [] (lawful-writable (codes us) (len us) (variables before) lawfully (omega (arith, long, few))) lawfully (omega (arith, long)) (beyond input head (words ++ rest) at split) in
    let end : next + length words ≡ at + length (packed (code (app s us))) = omega (arith, ap length all, length-append head words) in
    rw (started, read, decode-all us, new, end)

pub literals-back : (ls before : Words) (input rest : List ℕ) (at : ℕ) → Numbered 0 (varss before) → Literals ls → Numbered (variables before) (varss ls) → distinct (before +++ ls) ≡ true → sizes before + sizes ls ≤ 256
    → drop at input ≡ packed (codes ls) ++ rest → read_literals (len ls) before input at ≡ Ok (before +++ ls, at + length (packed (codes ls)))
literals-back nil before input rest at o l p d small here =
    let end : at ≡ at + length (packed []) = omega (arith, ap length packed_none) in
    literals-none 0 before input at refl ∙ (λ i. Ok (sym (all_words before) i, end i))
literals-back (cons l ls) before input rest at o ll p d small here =
    let parts = numbered-parts (variables before) (vars l) (varss ls) p in
    let first = packed (code l) in
    let others = packed (codes ls) in
    let all : packed (codes (cons l ls)) ≡ first ++ others = packed-append (code l) (codes ls) in
    let split : drop at input ≡ first ++ (others ++ rest) = here ∙ ap (λ (b : List ℕ). b ++ rest) all ∙ append_assoc first others rest in
    let next = at + length first in
    let one = literal-back before l input (others ++ rest) at o ll.0 parts.0 (distinct-parts before l ls d) (omega arith) split in
    let longer = before +++ cons l nil in
    let same : longer +++ ls ≡ before +++ cons l ls = push-more before l ls in
    let stands : variables longer ≡ stood (variables before) (vars l) = ap (stood 0) (varss-push before l) ∙ stood-more 0 (varss before) (vars l) in
    let count : suc (len ls) - 1 ≡ len ls = omega arith in
    let more = literals-back ls longer input rest next (order-push before l o parts.0) ll.1 (subst (λ (n : ℕ). Numbered n (varss ls)) (sym stands) parts.1) (ap distinct same ∙ d) (omega (arith, sizes-push before l)) (beyond input first (others ++ rest) at split) in
    let end : next + length others ≡ at + length (packed (codes (cons l ls))) = omega (arith, ap length all, length-append first others) in
    literals-more (suc (len ls)) before input at l next (omega arith) one
    ∙ ap (λ (n : ℕ). read_literals n longer input next) count
    ∙ more
    ∙ (λ i. Ok (same i, end i))

-- what is written is read back
pub reads-back : (ls : Words) → Clause ls → read_record (clause_form ls) ≡ Ok ls
unfolding read_record
reads-back ls c =
    let first = form (len ls) in
    let others = packed (codes ls) in
    let input = first ++ others in
    let few = c.few in
    let count : read_number input 0 ≡ Ok (len ls, 0 + length first) = reads_at input others 0 (len ls) (omega arith) refl in
    let read = literals-back ls nil input [] (0 + length first) tt c.literals c.order c.apart (omega (arith, c.small)) (beyond input first others 0 refl ∙ sym (append-nil others)) in
    let all : length input ≤ 0 + length first + length others = omega (arith, length-append first others) in
    rw (count, le-leb (len ls) 16 few, read, le-ltb (0 + length first + length others) (length input) all)
