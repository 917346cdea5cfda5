-- Reading back what was written of nodes.
use Rattle.std.specs.Prelude.{◌≡◌, ℕ, ◌≤◌, true, List, ◌++◌, length, Ok}
use Rattle.term.specs.Lawful.{lawful}
use Rattle.term.specs.declared.node.Node.{Node}
use Rattle.word.specs.Packed.{seen_after}
use Rattle.word.specs.Reads.{read_words}

-- where the nodes are the words that are needed, they are read back, up to the place `to`, after any others
abbrev pub Back : (nodes : List Node) (at : ℕ) → List ℕ → (to : ℕ) → Type 0
Back nodes at out to =
    (need room seen : ℕ) (acc : List Node) → lawful nodes need seen ≡ true → length nodes ≤ room → read_words need room seen out at acc ≡ Ok (acc ++ nodes, to, seen_after nodes seen)
