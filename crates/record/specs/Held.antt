-- What is known of every record.
use Rattle.std.specs.Prelude.{◌≡◌, true, ◌&&◌, List, [], ◌∷◌, length, ℕ}
use Rattle.std.proofs.Common.{All, leb, ap, subst, arith}
use Rattle.std.proofs.lemmas.Bool.{and_parts, leb-true, false≢true}
use Rattle.std.proofs.lemmas.List.{length-take}
use Rattle.std.proofs.lemmas.List.Elements.{All-nil, All-cons}
use Rattle.bounded.specs.Elems.{elems}
use Rattle.clauses.specs.Clauses.{Literal as AnyLiteral, each}
use Rattle.clauses.proofs.Beginnings.{length-begins}
use Rattle.term.specs.Coding.{codes, decode, Whole}
use Rattle.term.specs.Lawful.{lawful, Numbered, stood, Narrows}
use Rattle.term.specs.Words.{Word, var, app, Words, nil, cons, len, varss}
use Rattle.term.specs.declared.node.Node.{Node}
use Rattle.term.specs.declared.node.Node.TheVariants.{Variable, Applied}
use Rattle.term.specs.declared.node.Symbol.TheVariants.{Function, Positive, Negative}
use Rattle.term.proofs.Codings.{code-decode, decode-all, length-codes}
use Rattle.term.proofs.Laws.{numbered_more, lawful-stand}
use Rattle.record.specs.declared.clause.Record.{Record}
use Rattle.record.specs.Clauses.{predicative, Literal, Literals, Clause, whole, clausal}
use Rattle.record.specs.Records.{literals, clause}

-- the tests of its invariant, and what they say
pub whole_says : (nodes : List Node) → whole nodes ≡ true → Whole nodes
unfolding whole Whole
whole_says [] e = tt
whole_says (Variable x ∷ nodes) e = whole_says nodes e
whole_says (Applied s k ∷ nodes) e = let p = and_parts _ _ e in (leb-true k (len (decode nodes)) p.0, whole_says nodes p.1)

pub clausal-says : (ls : Words) (seen : ℕ) → clausal ls seen ≡ true → Literals ls × Numbered seen (varss ls)
unfolding clausal
clausal-says nil seen e = (tt, tt)
clausal-says (cons (var x) ls) seen e = absurd (false≢true e)
clausal-says (cons (app s us) ls) seen e =
    let p = and_parts (predicative s && leb (len us) 8) _ e in
    let q = and_parts (predicative s) (leb (len us) 8) p.0 in
    let t = and_parts (lawful (codes us) (len us) seen) (clausal ls (stood seen (varss us))) p.1 in
    let here = lawful-stand (codes us) (len us) seen t.0 in
    let rest = clausal-says ls (stood seen (varss us)) t.1 in
    let same = decode-all us in (
      ((q.0, leb-true (len us) 8 q.1, subst Narrows same here.narrow), rest.0),
      numbered_more seen (varss us) (varss ls) (subst (λ (ws : Words). Numbered seen (varss ws)) same here.order) rest.1,
    )

-- its nodes are those of its literals
pub nodes-of : (r : Record) → codes (literals r) ≡ elems r.nodes
nodes-of r = code-decode (elems r.nodes) (whole_says (elems r.nodes) r.whole)

pub held : (r : Record) → Clause (literals r)
held r =
    let facts = clausal-says (literals r) 0 r.clause in
    let starts = length-take r.starts.len r.starts.items in
    let nodes = length-take r.nodes.len r.nodes.items in
    record {
      few = omega (arith, ap length r.begun, length-begins 0 (literals r), starts, r.starts.within);
      small = omega (arith, ap length (nodes-of r), length-codes (literals r), nodes, r.nodes.within);
      literals = facts.0;
      order = facts.1;
      apart = r.apart;
    }

-- its literals are literals
any-literal : (l : Word) → Literal l → AnyLiteral l
any-literal (var x) h = h
any-literal (app (Function f) us) h = absurd (false≢true h.0)
any-literal (app (Positive p) us) h = tt
any-literal (app (Negative p) us) h = tt

any-literals : (ls : Words) → Literals ls → All AnyLiteral (each ls)
any-literals nil h = All-nil AnyLiteral
any-literals (cons l ls) h = All-cons AnyLiteral l (each ls) (any-literal l h.0) (any-literals ls h.1)

pub all-literals : (r : Record) → All AnyLiteral (clause r)
all-literals r = any-literals (literals r) (held r).literals
