-- One literal more in a list of nodes.
use Rattle.std.proofs.Common.{◌≡◌, ℕ, suc, ◌+◌, ◌-◌, ◌<◌, ◌≤◌, Bool, true, false, List, [], ◌∷◌, ◌++◌, length, get_or, take, Ok, Err, Result, sym, refl, ap, ◌∙◌, subst, ap₂, append_assoc, append-nil, arith, length-append}
use Rattle.std.specs.List.{between}
use Rattle.std.proofs.lemmas.List.{take_all, take_at, drop_at, length_push}
use Rattle.bounded.specs.declared.list.Full.{Full}
use Rattle.bounded.specs.Elems.{Pushed}
use Rattle.bounded.proofs.Rooms.{pushed_room}
use Rattle.term.specs.Coding.{code, codes, hd, decode, Whole, word_at}
use Rattle.term.specs.Lawful.{lawful, stood}
use Rattle.term.specs.Words.{Word, app, Words, nil, cons, ◌+++◌, size, sizes, vars, varss}
use Rattle.term.specs.declared.node.Node.{Node}
use Rattle.term.specs.declared.node.Node.TheVariants.{Applied}
use Rattle.term.proofs.Codings.{code-decode, codes-more, decode-all, decode-one, length-code, length-codes, whole-all}
use Rattle.term.proofs.Substitutions.{size-pos}
use Rattle.term.proofs.Laws.{stood-more, lawful-stand}
use Rattle.word.specs.declared.fault.WordFault.{WordFault}
use Rattle.word.specs.Packed.{packed, seen_after}
use Rattle.word.specs.Reads.{read_words, Gives}
use Rattle.word.proofs.Exact.{words-added}
use Rattle.record.specs.declared.fault.LiteralFault.{LiteralFault}
use Rattle.record.specs.declared.fault.LiteralFault.TheVariants.{Word as InWord, Repeated}
use Rattle.record.specs.declared.literal.Head.{Head}
use Rattle.record.specs.Clauses.{variables, stands}
use Rattle.clauses.specs.Beginnings.{begins}
use Rattle.record.specs.Reads.{words_from, Inside, head_at, differs, read_literal, Grows}
use Rattle.word.proofs.Laws.{packed_more, between_join}
use Rattle.word.proofs.Turns.{gave-fault, gave-words}
use Rattle.record.proofs.Words.{words-alone, fault-alone, seen_all}
use Rattle.record.proofs.Literals.{head-stands, head-room}
use Rattle.record.proofs.Tests.{varss-push}
use Rattle.record.proofs.Places.{from-begins}
use Rattle.clauses.proofs.Beginnings.{inside-begins}

-- the answers
pub grows-refused : (R : Result (Word × ℕ) LiteralFault) (old after : List Node) (fault : LiteralFault) → R ≡ Err fault → take (length old) after ≡ old → Grows R old (Err fault) after
grows-refused R old after fault e same = rw e (refl, same)

-- a literal was finished, and is still to be compared with those before it
pub record Finished (old : List Node) (input : List ℕ) (at : ℕ) (after : List Node) (to new : ℕ) : Type 0 where
  pub literal : Word
  pub nodes : after ≡ old ++ code literal
  pub counts : new ≡ variables (decode after)
  pub asked : read_literal (decode old) input at ≡ differs (decode old) at literal to
  pub forward : at ≤ to
  pub inside : to ≤ length input
  pub bytes : between at to input ≡ packed (code literal)

module _ (old : List Node) (whole : Whole old) where
  pub held : sizes (decode old) ≡ length old
  held = sym (length-codes (decode old)) ∙ ap length (code-decode old whole)

  -- the nodes of a literal more are those of its words
  spelt : (l : Word) → old ++ code l ≡ codes (decode old +++ cons l nil)
  spelt l =
      ap₂ ◌++◌ (sym (code-decode old whole)) (sym (append-nil (code l)))
      ∙ sym (codes-more (decode old) (cons l nil))

  pub decode-grown : (l : Word) → decode (old ++ code l) ≡ decode old +++ cons l nil
  decode-grown l = ap decode (spelt l) ∙ decode-all (decode old +++ cons l nil)

  variables-grown : (l : Word) → variables (decode (old ++ code l)) ≡ stood (variables (decode old)) (vars l)
  variables-grown l = ap variables (decode-grown l) ∙ ap (stood 0) (varss-push (decode old) l) ∙ stood-more 0 (varss (decode old)) (vars l)

  module _ (input : List ℕ) (at : ℕ) where
    head-refused : (fault : LiteralFault) → head_at (length old) input at ≡ Err fault → read_literal (decode old) input at ≡ Err fault
    unfolding read_literal
    head-refused fault e = let here : head_at (sizes (decode old)) input at ≡ Err fault = ap (λ (n : ℕ). head_at n input at) held ∙ e in rw here

    pub start-refused : (start : ℕ) → start ≡ length old → (R : Result Head LiteralFault) → R ≡ head_at start input at → (fault : LiteralFault) → R ≡ Err fault
        → Grows (read_literal (decode old) input at) old (Err fault) old
    start-refused start started R is fault was =
        grows-refused (read_literal (decode old) input at) old old fault
        (head-refused fault (sym (ap (λ (n : ℕ). head_at n input at) started) ∙ sym is ∙ was))
        (take_all (length old) old (omega arith))

    -- the words after the predicate
    module _ (h : Head) (read : head_at (length old) input at ≡ Ok h) (mid : List Node) (pushed : mid ≡ old ++ Applied h.symbol h.places ∷ []) (seen : ℕ) (counted : seen ≡ variables (decode old)) where
      here : head_at (sizes (decode old)) input at ≡ Ok h
      here = ap (λ (n : ℕ). head_at n input at) held ∙ read

      alone : read_words h.places (256 - suc (sizes (decode old))) (variables (decode old)) input h.next [] ≡ read_words h.places (256 - length mid) seen input h.next []
      alone =
          let room : 256 - suc (sizes (decode old)) ≡ 256 - length mid = omega (arith, held, ap length pushed, length_push old (Applied h.symbol h.places)) in
          ap₂ (λ (n s : ℕ). read_words h.places n s input h.next []) room (sym counted)

      words-refused : (fault : WordFault) → read_words h.places (256 - length mid) seen input h.next mid ≡ Err fault → read_literal (decode old) input at ≡ Err (InWord fault)
      unfolding read_literal
      words-refused fault e =
          let words = alone ∙ fault-alone h.places (256 - length mid) seen input h.next mid fault e in
          rw (here, words)

      finished : ((i : ℕ) → get_or input i 0 < 256) → (after : List Node) (to new : ℕ) → read_words h.places (256 - length mid) seen input h.next mid ≡ Ok (after, to, new) → Finished old input at after to new
      unfolding read_literal
      finished bytes after to new e =
          let w = words-alone h.places (256 - length mid) seen input h.next mid after to new e in
          let nodes = w.0 in
          let words = alone ∙ w.1 in
          let added = words-added h.places (256 - length mid) seen input h.next [] bytes (nodes, to, new) w.1 in
          let same : nodes ≡ added.nodes = added.added in
          let says = lawful-stand nodes h.places seen (ap (λ (l : List Node). lawful l h.places seen) same ∙ added.stand.words) in
          let us = decode nodes in
          let l = app h.symbol us in
          let head = head-stands (length old) input at bytes h read in
          let spells : Applied h.symbol h.places ∷ nodes ≡ code l = sym (ap₂ (λ (k : ℕ) (ns : List Node). Applied h.symbol k ∷ ns) says.count (code-decode nodes says.whole)) in
          let all : after ≡ old ++ code l = w.2 ∙ ap (λ (ns : List Node). ns ++ nodes) pushed ∙ append_assoc old (Applied h.symbol h.places ∷ []) nodes ∙ ap (λ (ns : List Node). old ++ ns) spells in
          record {
            literal = l;
            nodes = all;
            counts =
                added.counted
                ∙ ap (λ (ns : List Node). seen_after ns seen) (sym same ∙ sym (code-decode nodes says.whole))
                ∙ seen_all us seen
                ∙ ap (λ (n : ℕ). stood n (varss us)) counted
                ∙ sym (ap (λ (ns : List Node). variables (decode ns)) all ∙ variables-grown l);
            asked = rw (here, words);
            forward = omega (arith, head.forward, added.forward);
            inside = added.inside head.inside;
            bytes =
                between_join input at h.next to head.forward added.forward
                ∙ ap₂ ◌++◌ head.bytes (added.stand.bytes ∙ ap packed (sym same))
                ∙ sym (ap packed (sym spells) ∙ packed_more (Applied h.symbol h.places) nodes);
          }

    -- the same from what the calls promise: the predicate was read and put, and then its words were read
    module _
        (bytes : (i : ℕ) → get_or input i 0 < 256)
        (start : ℕ) (started : start ≡ length old)
        (R : Result Head LiteralFault) (is : R ≡ head_at start input at)
        (h : Head) (was : R ≡ Ok h)
        (r : Result (Unit {0}) Full) (mid : List Node) (push : Pushed 256 (Applied h.symbol h.places) old r mid)
        (seen : ℕ) (counted : seen ≡ variables (decode old))
      where
        read : head_at (length old) input at ≡ Ok h
        read = sym (ap (λ (n : ℕ). head_at n input at) started) ∙ sym is ∙ was

        put : mid ≡ old ++ Applied h.symbol h.places ∷ []
        put = pushed_room 256 (Applied h.symbol h.places) old r mid push (head-room (length old) input at bytes h read)

        pub literal-refused : (after : List Node) (fault : WordFault) → Gives (read_words h.places (256 - length mid) seen input h.next mid) mid (Err fault) after
            → Grows (read_literal (decode old) input at) old (Err (InWord fault)) after
        literal-refused after fault gives =
            let gave = gave-fault (read_words h.places (256 - length mid) seen input h.next mid) mid after fault gives in
            let same : take (length old) after ≡ old = ap (take (length old)) (gave.1 ∙ put) ∙ take_at old (Applied h.symbol h.places ∷ []) (length old) refl in
            grows-refused (read_literal (decode old) input at) old after (InWord fault) (words-refused h read mid put seen counted fault gave.0) same

        pub literal-finished : (after : List Node) (to new : ℕ) → Gives (read_words h.places (256 - length mid) seen input h.next mid) mid (Ok (to, new)) after → Finished old input at after to new
        literal-finished after to new gives = finished h read mid put seen counted bytes after to new (gave-words (read_words h.places (256 - length mid) seen input h.next mid) mid after to new gives)

  -- the literal among the nodes, after the others
  module _ (l : Word) (nodes : List Node) (is : nodes ≡ old ++ code l) (starts : List ℕ) (begun : starts ≡ begins 0 (decode old)) (start : ℕ) (started : start ≡ length old) where
    long : length nodes ≡ length old + size l
    long = ap length is ∙ length-append old (code l) ∙ ap (λ (n : ℕ). length old + n) (length-code l)

    pub grown-whole : Whole nodes × (start < length nodes)
    grown-whole = (subst Whole (sym (is ∙ spelt l)) (whole-all (decode old +++ cons l nil)), omega (arith, long, size-pos l))

    pub grown-inside : Inside (length nodes) starts
    grown-inside = subst (Inside (length nodes)) (sym begun) (inside-begins 0 (length nodes) (decode old) (omega (arith, long, held)))

    pub grown-stands : (b : Bool) → b ≡ stands (word_at nodes start) (words_from nodes starts) → stands l (decode old) ≡ b
    grown-stands b asked =
        let last : word_at nodes start ≡ l = ap₂ word_at is started ∙ ap (λ (ns : List Node). hd (decode ns)) (drop_at old (code l) (length old) refl) ∙ ap hd (decode-one l) in
        let all : nodes ≡ codes (decode old) ++ code l = is ∙ ap (λ (ns : List Node). ns ++ code l) (sym (code-decode old whole)) in
        let others : words_from nodes starts ≡ decode old = ap₂ words_from all begun ∙ from-begins (decode old) [] (code l) in
        sym (asked ∙ ap₂ stands last others)

pub grows-new : (R : Result (Word × ℕ) LiteralFault) (old after : List Node) (before : Words) (at to new : ℕ) (l : Word) → R ≡ differs before at l to → stands l before ≡ false → after ≡ old ++ code l → new ≡ variables (decode after)
    → Grows R old (Ok (to, new)) after
grows-new R old after before at to new l e fresh is counts = rw (e, fresh) (ap (λ (n : ℕ). Ok (to, n)) counts, is)

pub grows-again : (R : Result (Word × ℕ) LiteralFault) (old after : List Node) (before : Words) (at to : ℕ) (l : Word) → R ≡ differs before at l to → stands l before ≡ true → after ≡ old ++ code l
    → Grows R old (Err (Repeated at)) after
grows-again R old after before at to l e again is = rw (e, again) (refl, ap (take (length old)) is ∙ take_at old (code l) (length old) refl)
