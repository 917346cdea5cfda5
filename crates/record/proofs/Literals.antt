-- What is read as a literal is one, and its packed form is just the bytes read.
use Rattle.std.proofs.Common.{◌≡◌, ℕ, suc, ◌+◌, ◌-◌, ◌*◌, ◌/◌, ◌%◌, ◌<◌, ◌≤◌, true, false, eqb, ltb, leb, List, [], ◌∷◌, ◌++◌, length, get_or, Ok, sym, ap, ◌∙◌, subst, ap₂, inl, inr, arith}
use Rattle.std.specs.List.{between}
use Rattle.std.proofs.lemmas.Bool.{cond_both, leb-true, ltb-true, le-leb, eqb-true, eqb-false}
use Rattle.number.specs.Forms.{form}
use Rattle.number.specs.Reads.{read_number}
use Rattle.number.proofs.Answers.{clash, ok_same, picked}
use Rattle.term.specs.Coding.{code, decode}
use Rattle.term.specs.Lawful.{lawful, Numbered}
use Rattle.term.specs.Words.{Word, app, Words, size, sizes, vars}
use Rattle.term.specs.declared.node.Node.{Node}
use Rattle.term.specs.declared.node.Node.TheVariants.{Applied}
use Rattle.term.specs.declared.node.Symbol.{Symbol}
use Rattle.term.specs.declared.node.Symbol.TheVariants.{Positive, Negative}
use Rattle.term.proofs.Codings.{code-decode, length-codes}
use Rattle.term.proofs.Laws.{lawful-stand}
use Rattle.word.specs.Packed.{packed_symbol, packed_node, packed}
use Rattle.word.specs.Reads.{read_words}
use Rattle.word.proofs.Exact.{words-added}
use Rattle.word.proofs.Laws.{packed_more, between_join}
use Rattle.word.proofs.Turns.{then-made}
use Rattle.record.specs.declared.fault.LiteralFault.{LiteralFault}
use Rattle.record.specs.declared.fault.LiteralFault.TheVariants.{Number as InNumber, Word as InWord}
use Rattle.record.specs.declared.literal.Head.{Head}
use Rattle.record.specs.Clauses.{predicative, Literal, variables, stands}
use Rattle.record.specs.Reads.{predicate_of, head_at, read_literal}
use Rattle.number.proofs.Exact.{number-stands}

-- the predicate of a first number: its form is that number's
pub predicate-number : (value : ℕ) → packed_symbol (predicate_of value) ≡ value
predicate-number value =
    cond_both (eqb (value % 2) 0) (Positive (value / 2)) (Negative (value / 2)) (λ (s : Symbol). packed_symbol s ≡ value)
    (λ e. let even = eqb-true (value % 2) 0 e in omega arith)
    (λ e. let odd = eqb-false (value % 2) 0 e in halves value odd)
  where
    halves : (value : ℕ) → (value % 2 ≡ 0 → ⊥) → 2 * (value / 2) + 1 ≡ value
    halves value odd = omega arith

predicate-small : (value : ℕ) → value ≤ 65535 → predicative (predicate_of value) ≡ true
predicate-small value h =
    cond_both (eqb (value % 2) 0) (Positive (value / 2)) (Negative (value / 2)) (λ (s : Symbol). predicative s ≡ true)
    (λ _. le-leb (value / 2) 32767 (omega arith))
    (λ _. le-leb (value / 2) 32767 (omega arith))

-- a predicate with its count of places stands from `at` to the place after them
pub record HeadStands (held : ℕ) (input : List ℕ) (at : ℕ) (h : Head) : Type 0 where
  pub room : held < 256
  pub forward : at ≤ h.next
  pub inside : h.next ≤ length input
  pub symbol : predicative h.symbol ≡ true
  pub few : h.places ≤ 8
  pub bytes : between at h.next input ≡ packed_node (Applied h.symbol h.places)

pub head-stands : (held : ℕ) (input : List ℕ) (at : ℕ) → ((i : ℕ) → get_or input i 0 < 256) → (h : Head) → head_at held input at ≡ Ok h → HeadStands held input at h
unfolding head_at
head-stands held input at bytes h e =
    let p = then-made InNumber (read_number input at) _ h e in
    elim (picked (ltb held 256) _ _ _ p.2) [
      | inl s ↦
          let q = then-made InNumber (read_number input p.0.1) _ h s.1 in
          elim (picked (leb q.0.0 8) _ _ _ q.2) [
            | inl t ↦
                let m = number-stands input at bytes p.0 p.1 in
                let n = number-stands input p.0.1 bytes q.0 q.1 in
                subst (HeadStands held input at) (ok_same _ h t.1)
                (record {
                  room = ltb-true held 256 s.0;
                  forward = omega (arith, m.0, n.0);
                  inside = n.1;
                  symbol = predicate-small p.0.0 m.2;
                  few = leb-true q.0.0 8 t.0;
                  bytes =
                      between_join input at p.0.1 q.0.1 (omega (arith, m.0)) (omega (arith, n.0))
                      ∙ ap₂ ◌++◌ (m.3 ∙ ap form (sym (predicate-number p.0.0))) n.3;
                })
            | inr t ↦ absurd (clash _ h t.1)
          ]
      | inr s ↦ absurd (clash _ h s.1)
    ]

pub head-room : (held : ℕ) (input : List ℕ) (at : ℕ) → ((i : ℕ) → get_or input i 0 < 256) → (h : Head) → head_at held input at ≡ Ok h → held < 256
head-room held input at bytes h e = (head-stands held input at bytes h e).room

-- a literal stands from `at` to `to`, and it can come after those before
pub record Added (before : Words) (input : List ℕ) (at : ℕ) (l : Word) (to : ℕ) : Type 0 where
  pub literal : Literal l
  pub order : Numbered (variables before) (vars l)
  pub new : stands l before ≡ false
  pub small : sizes before + size l ≤ 256
  pub forward : at ≤ to
  pub inside : to ≤ length input
  pub bytes : between at to input ≡ packed (code l)

pub literal-added : (before : Words) (input : List ℕ) (at : ℕ) → ((i : ℕ) → get_or input i 0 < 256) → (q : Word × ℕ) → read_literal before input at ≡ Ok q → Added before input at q.0 q.1
unfolding read_literal
literal-added before input at bytes q e =
    let p = then-made (λ (d : LiteralFault). d) (head_at (sizes before) input at) _ q e in
    let h = p.0 in
    let r = then-made InWord (read_words h.places (256 - suc (sizes before)) (variables before) input h.next []) _ q p.2 in
    let head = head-stands (sizes before) input at bytes h p.1 in
    let words = words-added h.places (256 - suc (sizes before)) (variables before) input h.next [] bytes r.0 r.1 in
    elim (picked (stands (app h.symbol (decode r.0.0)) before) _ _ _ r.2) [
      | inl s ↦ absurd (clash _ q s.1)
      | inr s ↦
          let nodes = r.0.0 in
          let same : nodes ≡ words.nodes = words.added in
          let lawfully : lawful nodes h.places (variables before) ≡ true = ap (λ (l : List Node). lawful l h.places (variables before)) same ∙ words.stand.words in
          let says = lawful-stand nodes h.places (variables before) lawfully in
          let spelt : code (app h.symbol (decode nodes)) ≡ Applied h.symbol h.places ∷ nodes = ap₂ (λ (k : ℕ) (l : List Node). Applied h.symbol k ∷ l) says.count (code-decode nodes says.whole) in
          subst (λ (x : Word × ℕ). Added before input at x.0 x.1) (ok_same _ q s.1)
          (record {
            literal = (head.symbol, omega (arith, head.few, says.count), says.narrow);
            order = says.order;
            new = s.0;
            small = omega (arith, head.room, words.stand.fits, ap length same, length-codes (decode nodes), ap length (code-decode nodes says.whole));
            forward = omega (arith, head.forward, words.forward);
            inside = words.inside head.inside;
            bytes =
                between_join input at h.next r.0.1 head.forward words.forward
                ∙ ap₂ ◌++◌ head.bytes (words.stand.bytes ∙ ap packed (sym same))
                ∙ sym (ap packed spelt ∙ packed_more (Applied h.symbol h.places) nodes);
          })
    ]
