-- Reading words: the questions, node by node, in the order in which they are asked.
use Rattle.std.specs.Prelude.{◌≡◌, ℕ, zero, suc, ◌+◌, ◌/◌, ◌%◌, ◌≤◌, max, true, cond, List, [], ◌∷◌, ◌++◌, length, Ok, Err, Result, ◌==◌, nat_le}
use Rattle.std.specs.List.{between}
use Rattle.number.specs.Reads.{read_number}
use Rattle.term.specs.Lawful.{lawful}
use Rattle.term.specs.declared.node.Node.{Node}
use Rattle.term.specs.declared.node.Node.TheVariants.{Variable, Applied}
use Rattle.term.specs.declared.node.Symbol.TheVariants.{Function}
use Rattle.word.specs.declared.fault.WordFault.{WordFault}
use Rattle.word.specs.declared.fault.WordFault.TheVariants.{Number, Places, Nodes, Order}
use Rattle.word.specs.declared.reading.Read.{Read}
use Rattle.word.specs.Packed.{packed, seen_after, Writable}
use Rattle.word.specs.Then.{then}

-- what reading one node gives
abbrev pub gave : Node → (places next seen : ℕ) → Read
gave node places next seen = record { node = node; places = places; next = next; seen = seen }

-- the variable x whose number begins at `at`: has it stood before, or is it the next unused one?
abbrev pub variable_at : (seen at x next : ℕ) → Result Read WordFault
variable_at seen at x next = cond (nat_le x seen) (Ok (gave (Variable x) 0 next (max seen (suc x)))) (Err (Order at))

-- the function symbol f whose count of places begins at `at`: is there a count, and is it at most 8?
abbrev pub symbol_at : (seen : ℕ) → List ℕ → (f at : ℕ) → Result Read WordFault
symbol_at seen input f at =
    then Number (read_number input at) (λ p. cond (nat_le p.0 8) (Ok (gave (Applied (Function f) p.0) p.0 p.1 seen)) (Err (Places at)))

-- the node that begins at `at` with this number, whose place after is `next`: an even number is a variable, an odd one a function symbol
unfoldable pub node_at : (seen : ℕ) → List ℕ → (at value next : ℕ) → Result Read WordFault
node_at seen input at value next = cond (value % 2 == 0) (variable_at seen at (value / 2) next) (symbol_at seen input (value / 2) next)

-- the words that are needed, read from `at` on and put after `acc`, where there is room for so many nodes more and the
-- variables below `seen` have stood before: all the nodes, the place after the last word, and the new `seen`; or the fault
unfoldable pub read_words : (need room seen : ℕ) → List ℕ → (at : ℕ) → List Node → Result (List Node × ℕ × ℕ) WordFault
read_words zero room seen input at acc = Ok (acc, at, seen)
read_words (suc need) zero seen input at acc = then Number (read_number input at) (λ _. Err (Nodes at))
read_words (suc need) (suc room) seen input at acc =
    then Number (read_number input at) (λ p. then (λ e. e) (node_at seen input at p.0 p.1) (λ r. read_words (need + r.places) room r.seen input r.next (acc ++ r.node ∷ [])))

-- an answer is what the definition gives, and the list holds the words read, or after a fault what it held before
abbrev pub Gives : Result (List Node × ℕ × ℕ) WordFault → (before : List Node) → Result (ℕ × ℕ) WordFault → (after : List Node) → Type 0
Gives (Ok p) before r after = (r ≡ Ok (p.1, p.2)) × (after ≡ p.0)
Gives (Err fault) before r after = (r ≡ Err fault) × (after ≡ before)

-- the nodes are the words that are needed, they have room, and their packed form stands from `at` to `to`
pub record Stand (need room seen : ℕ) (input : List ℕ) (at to : ℕ) (nodes : List Node) : Type 0 where
  pub words : lawful nodes need seen ≡ true
  pub writable : Writable nodes
  pub fits : length nodes ≤ room
  pub bytes : between at to input ≡ packed nodes

-- words that stand from `at` to the place after were added to the list, and their variables were counted
pub record Added (need room seen : ℕ) (input : List ℕ) (at to new : ℕ) (before after : List Node) : Type 0 where
  pub nodes : List Node
  pub stand : Stand need room seen input at to nodes
  pub added : after ≡ before ++ nodes
  pub counted : new ≡ seen_after nodes seen
  pub forward : at ≤ to
  pub inside : at ≤ length input → to ≤ length input

-- an answer is exact: words that stand at `at` were added, or no such words stand there
abbrev pub Exactly : (need room seen : ℕ) → List ℕ → (at : ℕ) → (before : List Node) → Result (ℕ × ℕ) WordFault → (after : List Node) → Type 0
Exactly need room seen input at before (Ok p) after = Added need room seen input at p.0 p.1 before after
Exactly need room seen input at before (Err _) after = (to : ℕ) (nodes : List Node) → Stand need room seen input at to nodes → ⊥
