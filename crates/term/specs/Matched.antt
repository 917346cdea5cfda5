-- What a match of the words at two places leaves.
use Rattle.std.specs.Prelude.{◌≡◌, ℕ, ◌<◌, List, [], ◌∷◌, length, Some, None, Option, slice_index_or}
use Rattle.term.specs.declared.node.Node.{Node}
use Rattle.term.specs.declared.node.Node.TheVariants.{Variable, Applied}
use Rattle.term.specs.Words.{Word, sub}
use Rattle.term.specs.Coding.{word_at, Next}

-- bindings: for each variable of the pattern, the place in the target of the word that it stands for
abbrev pub Bindings : Type 0
Bindings = List (Option ℕ)

-- every variable of the nodes is below n
unfoldable pub Below : ℕ → List Node → Type 0
Below n [] = Unit {0}
Below n (Variable x ∷ nodes) = (x < n) × Below n nodes
Below n (Applied s k ∷ nodes) = Below n nodes

-- every binding is a place in the target
unfoldable pub Placed : List Node → Bindings → Type 0
Placed target bound = (x q : ℕ) → slice_index_or bound x None ≡ Some q → q < length target

-- the substitution puts for each bound variable the word that it is bound to
unfoldable pub Agrees : List Node → Bindings → (ℕ → Word) → Type 0
Agrees target bound θ = (x q : ℕ) → slice_index_or bound x None ≡ Some q → θ x ≡ word_at target q

-- of the substitutions that agree with the bindings before, just those with E agree with the bindings after
pub record Narrowed (target : List Node) (before after : Bindings) (E : (ℕ → Word) → Type 0) : Type 0 where
  pub placed : Placed target after
  pub back : (θ : ℕ → Word) → Agrees target after θ → Agrees target before θ × E θ
  pub on : (θ : ℕ → Word) → Agrees target before θ → E θ → Agrees target after θ

-- the substitution turns the word at i of the pattern into the word at j of the target
abbrev pub Turns : List Node → ℕ → List Node → ℕ → (ℕ → Word) → Type 0
Turns pattern i target j θ = sub θ (word_at pattern i) ≡ word_at target j

-- an answer of a match: where the two words end, or none where no substitution that agrees turns the one into the other
abbrev pub Matched : (pattern : List Node) (i : ℕ) (target : List Node) (j : ℕ) → Bindings → Option (ℕ × ℕ) → Bindings → Type 0
Matched pattern i target j before (Some e) after = Next pattern i e.0 × Next target j e.1 × Narrowed target before after (Turns pattern i target j)
Matched pattern i target j before None after = (θ : ℕ → Word) → Agrees target before θ → Turns pattern i target j θ → ⊥
