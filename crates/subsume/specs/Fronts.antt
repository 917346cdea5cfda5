-- Fronts: where a walk stands in all targets after nodes of some shape.
use Rattle.std.specs.Prelude.{◌≡◌, ℕ, zero, suc, ◌+◌, ◌<◌, ◌≤◌, ◌⊎◌, List, [], ◌∷◌, ◌++◌, length, Some, None, Option, slice_index, slice_index_or}
use Rattle.term.specs.Coding.{word_at, Next}
use Rattle.term.specs.declared.node.Node.{Node}
use Rattle.term.specs.declared.node.Node.TheVariants.{Variable, Applied}
use Rattle.subsume.specs.declared.front.Front.{Front}
use Rattle.subsume.specs.Bits.{bit_at}
use Rattle.subsume.specs.Choices.{front_at}
use Rattle.subsume.specs.Meeting.{Advanced, place_of}

-- a node with all variables the same
abbrev pub shape : Node → Node
shape (Variable x) = Variable 0
shape (Applied s k) = Applied s k

-- the place q, where the bit is 1
abbrev pub where_set : (bit q : ℕ) → Option ℕ
where_set zero q = None
where_set (suc zero) q = Some q
where_set (suc (suc bit)) q = None

-- where the walk stands in the target j, if it has not ended there
abbrev pub stands : {N : ℕ} → Front N → (j : ℕ) → Option ℕ
stands front j = where_set (bit_at front.met.words j) (slice_index front.at j)

-- the word at i has k nodes or more
abbrev pub HasNodes : List Node → (i k : ℕ) → Type 0
HasNodes a i k = (e : ℕ) × Next a i e × (i + k ≤ e)

-- the node leads from front r to front s, which comes later
abbrev pub Follows : {N : ℕ} → List (Front N) → (r : ℕ) → Node → (s : ℕ) → Type 0
Follows fronts r node s = (r < s) × (s < length fronts) × ((front_at fronts s).parent ≡ r) × ((front_at fronts s).node ≡ shape node)

-- k nodes from i on lead from front 0 to front r
abbrev pub Leads : {N : ℕ} → List (Front N) → List Node → (i k r : ℕ) → Type 0
Leads fronts a i zero r = r ≡ 0
Leads fronts a i (suc k) r = Follows fronts (front_at fronts r).parent (slice_index_or a (i + k) (Variable 0)) r × Leads fronts a i k (front_at fronts r).parent

-- the labels of the words where a walk stands that meets a variable
abbrev pub Labelled : {N : ℕ} → List Node → (targets : List ℕ) → Front N → Node → (labels : List ℕ) → Type 0
Labelled b targets front (Variable x) labels = (j q : ℕ) → j < length targets → stands front j ≡ Some q → slice_index labels j ≡ place_of b (word_at b q)
Labelled b targets front (Applied s k) labels = Unit {0}

-- one node on from a front, in each of the targets at some places
pub record Beyond {N : ℕ} (b : List Node) (targets : List ℕ) (before : Front N) (node : Node) (after : Front N) : Type 0 where
  pub shaped : after.node ≡ shape node
  pub advanced : (j : ℕ) → j < length targets → Advanced node b (stands before j) (stands after j)
  pub labels : Labelled b targets before node after.labels

-- there is one front more, which the node leads to from front r; or all are as before
abbrev pub Grown : {N : ℕ} → List Node → (targets : List ℕ) → (r : ℕ) → Node → (before after : List (Front N)) → Type 0
Grown b targets r node before after = (after ≡ before) ⊎ ((front : Front _) × (after ≡ before ++ front ∷ []) × (front.parent ≡ r) × Beyond b targets (front_at before r) node front)
