-- What the engine asks of a record: its literals by where they begin, and fewer than 256 variables.
use Rattle.std.proofs.Common.{◌≡◌, ℕ, ◌≤◌, List, [], ◌∷◌, sym, refl, ap, ◌∙◌, ap₂, arith}
use Rattle.term.specs.Coding.{codes, word_at}
use Rattle.term.specs.Matched.{Below}
use Rattle.term.specs.Words.{Word, Words, sizes}
use Rattle.term.specs.declared.node.Node.{Node}
use Rattle.clauses.specs.Clauses.{literals_at, each}
use Rattle.clauses.proofs.Below.{words-below}
use Rattle.record.specs.Clauses.{variables, Clause}
use Rattle.clauses.specs.Beginnings.{begins}
use Rattle.record.specs.Reads.{words_from}
use Rattle.record.proofs.Places.{from_all}

-- literals
each-from : (nodes : List Node) (starts : List ℕ) → each (words_from nodes starts) ≡ literals_at nodes starts
each-from nodes [] = refl
each-from nodes (i ∷ starts) = ap (λ (us : List Word). word_at nodes i ∷ us) (each-from nodes starts)

literals-each : (ls : Words) → literals_at (codes ls) (begins 0 ls) ≡ each ls
literals-each ls = sym (each-from (codes ls) (begins 0 ls)) ∙ ap each (from_all ls)

pub literals-seen : (ls : Words) (nodes : List Node) (starts : List ℕ) → nodes ≡ codes ls → starts ≡ begins 0 ls → literals_at nodes starts ≡ each ls
literals-seen ls nodes starts e f = ap₂ literals_at e f ∙ literals-each ls

-- variables
pub clause-below : (ls : Words) → Clause ls → (n : ℕ) → sizes ls ≤ n → Below n (codes ls)
clause-below ls c n h = (words-below ls 0 n c.order (omega arith)).0

pub few-variables : (ls : Words) → Clause ls → variables ls ≤ 256
few-variables ls c = let small = c.small in omega (arith, (words-below ls 0 256 c.order (omega arith)).1)
