-- Words and clauses in legible form.
use Rattle.std.specs.Prelude.{ℕ, zero, suc, ◌%◌, ◌==◌, cond, List, [], ◌∷◌, ◌++◌, codes, decimal}
use Rattle.term.specs.declared.node.Node.{Node}
use Rattle.term.specs.declared.node.Node.TheVariants.{Variable, Applied}
use Rattle.term.specs.declared.node.Symbol.{Symbol}
use Rattle.term.specs.declared.node.Symbol.TheVariants.{Function, Positive, Negative}
use Rattle.clauses.specs.Clauses.{each}
use Rattle.term.specs.Words.{Word, var, app, Words, nil, cons, len}

-- the letter of a predicate, by what its number leaves on division by 4
abbrev pub letter : ℕ → List ℕ
letter p = cond (p % 4 == 1) (codes "p") (cond (p % 4 == 2) (codes "q") (cond (p % 4 == 3) (codes "r") (codes "s")))

-- a constant is a, a symbol with places is f, a predicate is its letter, with a minus where it is negative
abbrev pub symbol_name : Symbol → (places : ℕ) → List ℕ
symbol_name (Function f) zero = codes "a" ++ decimal f
symbol_name (Function f) (suc k) = codes "f" ++ decimal f
symbol_name (Positive p) k = letter p ++ decimal p
symbol_name (Negative p) k = codes "-" ++ (letter p ++ decimal p)

abbrev pub node_name : Node → List ℕ
node_name (Variable x) = codes "X" ++ decimal x
node_name (Applied s k) = symbol_name s k

-- what stands before the text in place n of several: this before the first, a comma before the others
abbrev pub divider : (first : List ℕ) → (n : ℕ) → List ℕ
divider first zero = first
divider first (suc n) = codes ", "

-- what stands before the word in place n, and after the words in n places
abbrev pub opening : ℕ → List ℕ
opening n = divider (codes "(") n

abbrev pub closing : ℕ → List ℕ
closing zero = []
closing (suc n) = codes ")"

-- a word, and the words from place n on
unfoldable mutual
  pub shown : Word → List ℕ
  shown (var x) = node_name (Variable x)
  shown (app s us) = symbol_name s (len us) ++ shown_from 0 us

  pub shown_from : (n : ℕ) → Words → List ℕ
  shown_from n nil = closing n
  shown_from n (cons u us) = opening n ++ (shown u ++ shown_from (suc n) us)

-- what stands before the text in place n of several, and all of them from place n on
abbrev pub separator : ℕ → List ℕ
separator n = divider [] n

unfoldable pub separated : {X : Type 0} → (X → List ℕ) → (n : ℕ) → List X → List ℕ
separated text n [] = []
separated text n (x ∷ xs) = separator n ++ (text x ++ separated text (suc n) xs)

-- a clause: its literals in braces
unfoldable pub shown_clause : Words → List ℕ
shown_clause ls = codes "{" ++ (separated shown 0 (each ls) ++ codes "}")
