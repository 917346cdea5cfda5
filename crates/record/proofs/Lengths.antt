-- How long the packed form of a record can be.
use Rattle.std.proofs.Common.{ℕ, zero, suc, ◌*◌, ◌≤◌, List, [], ◌∷◌, length, get_or, arith, length-append}
use Rattle.std.specs.List.{flat_map}
use Rattle.number.specs.Forms.{form}
use Rattle.number.specs.Groups.{table, bits, groups}
use Rattle.number.proofs.Formed.{length-form}
use Rattle.term.specs.Coding.{codes}
use Rattle.term.specs.Words.{len}
use Rattle.term.specs.declared.node.Node.{Node}
use Rattle.term.specs.declared.node.Node.TheVariants.{Variable, Applied}
use Rattle.term.proofs.Codings.{length-codes}
use Rattle.word.specs.Packed.{packed_symbol, packed_node, packed}
use Rattle.record.specs.declared.clause.Record.{Record}
use Rattle.record.specs.Held.{held}
use Rattle.record.specs.Reads.{clause_form}
use Rattle.record.specs.Records.{literals}

abbrev Most : (n : ℕ) → List ℕ → Type 0
Most n [] = Unit {0}
Most n (x ∷ xs) = (x ≤ n) × Most n xs

most-at : (n : ℕ) (xs : List ℕ) (i : ℕ) → Most n xs → get_or xs i 0 ≤ n
most-at n [] i h = omega arith
most-at n (x ∷ xs) zero h = h.0
most-at n (x ∷ xs) (suc i) h = most-at n xs i h.1

form-few : (v : ℕ) → length (form v) ≤ 3
unfolding groups
form-few v =
    let l = length-form v in
    let t = most-at 3 table (bits v) (omega arith, (omega arith, (omega arith, (omega arith, (omega arith, (omega arith, (omega arith, (omega arith, (omega arith, (omega arith, (omega arith, (omega arith, (omega arith, (omega arith, (omega arith, (omega arith, (omega arith, tt))))))))))))))))) in
    omega (arith, l, t)

node-few : (node : Node) → length (packed_node node) ≤ 6
node-few (Variable x) = omega (arith, form-few (2 * x))
node-few (Applied s k) = omega (arith, length-append (form (packed_symbol s)) (form k), form-few (packed_symbol s), form-few k)

packed-few : (nodes : List Node) → length (packed nodes) ≤ 6 * length nodes
unfolding packed
packed-few [] = omega arith
packed-few (node ∷ nodes) = omega (arith, length-append (packed_node node) (flat_map packed_node nodes), node-few node, packed-few nodes)

pub form-within : (r : Record) → length (clause_form (literals r)) ≤ 1539
form-within r =
    let ls = literals r in
    let small = (held r).small in
    omega (arith, length-append (form (len ls)) (packed (codes ls)), form-few (len ls), packed-few (codes ls), length-codes ls)
