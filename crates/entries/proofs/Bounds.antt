-- The byte of a fault of a number, a word or an entry lies within the bytes read, or at their end.
use Rattle.std.proofs.Common.{ℕ, zero, suc, ◌+◌, ◌-◌, ◌/◌, ◌%◌, ◌<◌, ◌≤◌, Bool, true, false, cond, eqb, ltb, leb, List, [], ◌∷◌, length, drop, Ok, Err, Result, arith}
use Rattle.std.proofs.lemmas.List.{length-drop}
use Rattle.std.proofs.lemmas.Bool.{cond_both, leb-true}
use Rattle.number.specs.declared.fault.NumberFault.{NumberFault}
use Rattle.number.specs.Faults as numbers
use Rattle.number.specs.Reads.{read_number, first, second, third}
use Rattle.word.specs.declared.fault.WordFault.{WordFault}
use Rattle.word.specs.declared.fault.WordFault.TheVariants.{Number}
use Rattle.word.specs.Faults as words
use Rattle.word.specs.Reads.{node_at, read_words}
use Rattle.word.specs.Then.{then}
use Rattle.term.specs.declared.node.Node.{Node}
use Rattle.entries.specs.Entries.{reach, entry_at}

-- what an answer and then the next one give
pub then-holds : {X Y E F : Type 0} (P : Result X E → Type 0) (Q : Result Y F → Type 0) (f : E → F) (r : Result X E) (next : X → Result Y F)
    → P r → ((x : X) → P (Ok x) → Q (next x)) → ((e : E) → P (Err e) → Q (Err (f e))) → Q (then f r next)
then-holds P Q f (Ok x) next p on off = on x p
then-holds P Q f (Err e) next p on off = off e p

-- a number ends behind its place and by n, and so does the byte of its fault
abbrev pub NumberBy : (at n : ℕ) → Result (ℕ × ℕ) NumberFault → Type 0
NumberBy at n (Ok p) = (at < p.1) × (p.1 ≤ n)
NumberBy at n (Err fault) = (numbers.told fault).1 ≤ n

third-by : (low middle : ℕ) (bytes : List ℕ) (at end : ℕ) → at + 2 + length bytes ≤ end → NumberBy at end (third low middle bytes at end)
third-by low middle [] at end h = omega arith
third-by low middle (high ∷ bytes) at end h = cond_both (ltb high 4) _ _ (NumberBy at end) (λ _. cond_both (eqb high 0) _ _ (NumberBy at end) (λ _. omega arith) (λ _. (omega arith, omega arith))) (λ _. omega arith)

second-by : (low : ℕ) (bytes : List ℕ) (at end : ℕ) → at + 1 + length bytes ≤ end → NumberBy at end (second low bytes at end)
second-by low [] at end h = omega arith
second-by low (middle ∷ bytes) at end h =
    cond_both (ltb middle 128) _ _ (NumberBy at end) (λ _. cond_both (eqb middle 0) _ _ (NumberBy at end) (λ _. omega arith) (λ _. (omega arith, omega arith))) (λ _. third-by low middle bytes at end (omega arith))

first_by : (bytes : List ℕ) (at end : ℕ) → (0 < length bytes → at + length bytes ≤ end) → NumberBy at end (first bytes at end)
first_by [] at end h = omega arith
first_by (low ∷ bytes) at end h =
    let k : at + suc (length bytes) ≤ end = h (omega arith) in
    cond_both (ltb low 128) _ _ (NumberBy at end) (λ _. (omega arith, omega arith)) (λ _. second-by low bytes at end (omega arith))

module _ (input : List ℕ) where
  pub number_by : (at : ℕ) → NumberBy at (length input) (read_number input at)
  unfolding read_number
  number_by at = first_by (drop at input) at (length input) (λ h. omega (arith, length-drop at input))

  -- an entry stands behind its place and within the input, and so does the byte of its fault
  abbrev pub EntryBy : (at : ℕ) → Result (ℕ × ℕ) NumberFault → Type 0
  EntryBy at (Ok p) = (at < p.0) × (p.0 ≤ p.1) × (p.1 ≤ length input)
  EntryBy at (Err fault) = (numbers.told fault).1 ≤ length input

  reach-by : (at : ℕ) (r : Result (ℕ × ℕ) NumberFault) → NumberBy at (length input) r → EntryBy at (reach (length input) r)
  reach-by at (Ok p) h =
      cond_both (leb p.0 (length input - p.1)) _ _ (EntryBy at) (λ e. (h.0, omega arith, omega (arith, h.1, leb-true p.0 (length input - p.1) e))) (λ _. omega arith)
  reach-by at (Err fault) h = h

  pub entry_by : (at : ℕ) → EntryBy at (entry_at input at)
  unfolding entry_at
  entry_by at = reach-by at (read_number input at) (number_by at)

  -- what is read ends by the end of the input, and so does the byte of its fault
  abbrev EndsBy : {R : Type 0} → Result R WordFault → (next : R → ℕ) → Type 0
  EndsBy (Ok r) next = next r ≤ length input
  EndsBy (Err fault) next = (words.told fault).1 ≤ length input

  record NodeBy {R : Type 0} (s : Result R WordFault) (next : R → ℕ) : Type 0 where
    ends : EndsBy s next

  node-either : {R : Type 0} {next : R → ℕ} (b : Bool) (x y : Result R WordFault) → NodeBy x next → NodeBy y next → NodeBy (cond b x y) next
  node-either true x y p q = p
  node-either false x y p q = q

  node-then : {R : Type 0} {next : R → ℕ} (at : ℕ) (s : Result (ℕ × ℕ) NumberFault) (on : ℕ × ℕ → Result R WordFault)
      → NumberBy at (length input) s → ((p : ℕ × ℕ) → p.1 ≤ length input → NodeBy (on p) next) → NodeBy (then Number s on) next
  node-then at (Ok p) on h k = k p h.1
  node-then at (Err e) on h k = record { ends = h }

  node_by : (seen at value next : ℕ) → at ≤ length input → next ≤ length input → NodeBy (node_at seen input at value next) (λ r. r.next)
  unfolding node_at
  node_by seen at value next h k =
      node-either (eqb (value % 2) 0) _ _
      (node-either (leb (value / 2) seen) _ _ (record { ends = k }) (record { ends = h }))
      (node-then next (read_number input next) _ (number_by next) (λ p b. node-either (leb p.0 8) _ _ (record { ends = b }) (record { ends = k })))

  abbrev pub WordsBy : Result (List Node × ℕ × ℕ) WordFault → Type 0
  WordsBy (Ok p) = p.1 ≤ length input
  WordsBy (Err fault) = (words.told fault).1 ≤ length input

  words-then : {R : Type 0} {next : R → ℕ} (s : Result R WordFault) (on : R → Result (List Node × ℕ × ℕ) WordFault) → NodeBy s next → ((r : R) → next r ≤ length input → WordsBy (on r)) → WordsBy (then (λ e. e) s on)
  words-then (Ok r) on h k = k r h.ends
  words-then (Err e) on h k = h.ends

  pub words-by : (need room seen at : ℕ) (acc : List Node) → at ≤ length input → WordsBy (read_words need room seen input at acc)
  unfolding read_words
  words-by zero room seen at acc h = h
  words-by (suc need) zero seen at acc h = then-holds (NumberBy at (length input)) WordsBy Number (read_number input at) _ (number_by at) (λ p b. h) (λ e b. b)
  words-by (suc need) (suc room) seen at acc h =
      then-holds (NumberBy at (length input)) WordsBy Number (read_number input at) _ (number_by at)
      (λ p b. words-then (node_at seen input at p.0 p.1) _ (node_by seen at p.0 p.1 h b.1) (λ r k. words-by (need + r.places) room r.seen r.next _ k))
      (λ e b. b)
