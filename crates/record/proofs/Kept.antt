-- A record stays one when a literal comes last.
use Rattle.std.proofs.Common.{◌≡◌, ℕ, ◌+◌, ◌<◌, true, List, [], ◌∷◌, ◌++◌, length, get_or, is_ok, Ok, Err, Result, sym, refl, ap, ◌∙◌, ap₂, arith}
use Rattle.std.proofs.lemmas.Bool.{true≢false}
use Rattle.bounded.specs.Elems.{elems}
use Rattle.term.specs.Coding.{decode, Whole}
use Rattle.term.specs.Words.{Word, Words, nil, cons, ◌+++◌, sizes}
use Rattle.term.specs.declared.node.Node.{Node}
use Rattle.record.specs.declared.clause.Record.{Record}
use Rattle.record.specs.declared.fault.LiteralFault.{LiteralFault}
use Rattle.record.specs.Clauses.{whole, clausal, distinct}
use Rattle.clauses.specs.Beginnings.{begins}
use Rattle.record.specs.Records.{literals}
use Rattle.record.specs.Reads.{read_literal, Grows, Adds}
use Rattle.record.proofs.Tests.{whole_from, clausal-from, literals-push, order-push}
use Rattle.record.specs.Held.{whole_says, clausal-says}
use Rattle.record.proofs.Places.{distinct_push}
use Rattle.clauses.proofs.Beginnings.{begins-push}
use Rattle.record.proofs.Literals.{literal-added}
use Rattle.record.proofs.Grown.{held, decode-grown, grown-whole}

-- the invariant of a record, over its nodes and where its literals begin
pub record Invariant (nodes : List Node) (starts : List ℕ) : Type 0 where
  pub whole-nodes : whole nodes ≡ true
  pub clause : clausal (decode nodes) 0 ≡ true
  pub apart : distinct (decode nodes) ≡ true
  pub begun : starts ≡ begins 0 (decode nodes)

pub whole-record : (r : Record) → Whole (elems r.nodes)
whole-record r = whole_says (elems r.nodes) r.whole

module _ (r : Record) (input : List ℕ) (bytes : (i : ℕ) → get_or input i 0 < 256) (at : ℕ) where
  -- a literal was read
  pub grown-invariant : (R : Result (Word × ℕ) LiteralFault) → R ≡ read_literal (literals r) input at → (answer : Result (ℕ × ℕ) LiteralFault) (after : List Node) → Grows R (elems r.nodes) answer after → is_ok answer ≡ true
      → (starts : List ℕ) → starts ≡ elems r.starts ++ length (elems r.nodes) ∷ [] → Invariant after starts
  grown-invariant (Ok p) e answer after grows ok starts pushed =
      let nodes = elems r.nodes in
      let before = literals r in
      let l = p.0 in
      let wh = whole-record r in
      let added = literal-added before input at bytes p (sym e) in
      let facts = clausal-says before 0 r.clause in
      let words : decode after ≡ before +++ cons l nil = ap decode grows.1 ∙ decode-grown nodes wh l in
      let first : 0 + sizes before ≡ length nodes = omega (arith, held nodes wh) in
      record {
        whole-nodes = whole_from after (grown-whole nodes wh l after grows.1 (begins 0 before) refl (length nodes) refl).0;
        clause = ap (λ (ls : Words). clausal ls 0) words ∙ clausal-from (before +++ cons l nil) 0 (literals-push before l facts.0 added.literal) (order-push before l facts.1 added.order);
        apart = ap distinct words ∙ distinct_push before l r.apart added.new;
        begun = pushed ∙ ap₂ (λ (ns : List ℕ) (n : ℕ). ns ++ n ∷ []) r.begun (sym first) ∙ sym (begins-push 0 before l) ∙ ap (begins 0) (sym words);
      }
  grown-invariant (Err fault) e answer after grows ok starts pushed = absurd (true≢false (sym ok ∙ ap is_ok grows.0))

  pub grown-adds : (R : Result (Word × ℕ) LiteralFault) (answer : Result (ℕ × ℕ) LiteralFault) (after : List Node) → Grows R (elems r.nodes) answer after → is_ok answer ≡ true → Adds R (literals r) answer (decode after)
  grown-adds (Ok p) answer after grows ok = (grows.0, ap decode grows.1 ∙ decode-grown (elems r.nodes) (whole-record r) p.0)
  grown-adds (Err fault) answer after grows ok = absurd (true≢false (sym ok ∙ ap is_ok grows.0))
