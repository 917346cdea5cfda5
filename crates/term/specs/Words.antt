-- Words, substitutions, and covering among words.
use Rattle.std.specs.Prelude.{◌≡◌, ℕ, suc, ◌+◌, List, [], ◌∷◌, ◌++◌}
use Rattle.term.specs.declared.node.Symbol.{Symbol}

-- a word is a variable, or a symbol with its places filled by words
mutual
  pub data Word : Type 0 where
    var : ℕ → Word
    app : Symbol → Words → Word
    deriving Discrete as Word-discrete

  pub data Words : Type 0 where
    nil : Words
    cons : Word → Words → Words
    deriving Discrete as Words-discrete

-- one after the other
infixr 40 ◌+++◌
abbrev pub ◌+++◌ : Words → Words → Words
◌+++◌ nil vs = vs
◌+++◌ (cons u us) vs = cons u (us +++ vs)

-- how many words
abbrev pub len : Words → ℕ
len nil = 0
len (cons u us) = suc (len us)

-- how many nodes
abbrev mutual
  pub size : Word → ℕ
  size (var x) = 1
  size (app s us) = suc (sizes us)

  pub sizes : Words → ℕ
  sizes nil = 0
  sizes (cons u us) = size u + sizes us

-- the variables in written order, each as often as it stands
abbrev mutual
  pub vars : Word → List ℕ
  vars (var x) = x ∷ []
  vars (app s us) = varss us

  pub varss : Words → List ℕ
  varss nil = []
  varss (cons u us) = vars u ++ varss us

-- a substitution puts words for variables
abbrev mutual
  pub sub : (ℕ → Word) → Word → Word
  sub θ (var x) = θ x
  sub θ (app s us) = app s (subs θ us)

  pub subs : (ℕ → Word) → Words → Words
  subs θ nil = nil
  subs θ (cons u us) = cons (sub θ u) (subs θ us)

-- some substitution turns u into v
abbrev pub Covers : Word → Word → Type 0
Covers u v = (θ : ℕ → Word) × (sub θ u ≡ v)
