-- Bytes of nodes, counted and put into a buffer one after the other.
use Rattle.std.proofs.Common.{◌≡◌, ℕ, ◌+◌, ◌≤◌, List, ◌∷◌, ◌++◌, length, take, drop, Ok, Err, Result, sym, refl, ap, ◌∙◌, arith, length-append}
use Rattle.std.proofs.Math.Seq.{paste}
use Rattle.std.proofs.lemmas.List.Edits.{paste_all, paste-paste}
use Rattle.number.specs.declared.fault.NoRoom.{NoRoom}
use Rattle.number.specs.Groups.{groups, Fewest}
use Rattle.number.specs.Forms.{form}
use Rattle.number.specs.Writes.{Wrote}
use Rattle.number.proofs.Formed.{length-form}
use Rattle.term.specs.declared.node.Node.{Node}
use Rattle.term.specs.declared.node.Node.TheVariants.{Applied}
use Rattle.term.specs.declared.node.Symbol.{Symbol}
use Rattle.word.specs.Packed.{packed_symbol, packed_node, packed}
use Rattle.word.proofs.Laws.{packed_more}

-- a number takes at most three bytes
pub few-groups : (value k : ℕ) → value ≤ 65535 → Fewest value k → k ≤ 3
few-groups value k h f = f.fewest 3 (omega arith) (omega arith)

pub length-symbol : (s : Symbol) (k : ℕ) → length (packed_node (Applied s k)) ≡ groups (packed_symbol s) + groups k
length-symbol s k = length-append (form (packed_symbol s)) (form k) ∙ rw (length-form (packed_symbol s), length-form k)

pub length_more : (node : Node) (nodes : List Node) → length (packed (node ∷ nodes)) ≡ length (packed_node node) + length (packed nodes)
length_more node nodes = ap length (packed_more node nodes) ∙ length-append (packed_node node) (packed nodes)

-- bytes that have room are put
pub wrote-puts : (bytes : List ℕ) (at : ℕ) (before : List ℕ) (r : Result ℕ NoRoom) (after : List ℕ) → Wrote bytes at before r after → at + length bytes ≤ length before
    → (r ≡ Ok (at + length bytes)) × (after ≡ take at before ++ (bytes ++ drop (at + length bytes) before))
wrote-puts bytes at before (Ok to) after w h = (ap Ok w.0, w.2 ∙ ap (λ (n : ℕ). take at before ++ (bytes ++ drop n before)) w.0)
wrote-puts bytes at before (Err e) after w h = absurd (omega (arith, w.0))

-- bytes put after others
pub two-puts : (before mid xs ys : List ℕ) (at next : ℕ) → at ≤ length before → next ≡ at + length xs → mid ≡ take at before ++ (xs ++ drop (at + length xs) before)
    → paste mid next ys (length ys) ≡ paste before at (xs ++ ys) (length (xs ++ ys))
two-puts before mid xs ys at next h n m =
    let put : mid ≡ paste before at xs (length xs) = m ∙ sym (paste_all before at xs (length xs) refl) in
    rw (put, n, length-append xs ys) (paste-paste before at xs ys (length xs) (length ys) refl refl h)
