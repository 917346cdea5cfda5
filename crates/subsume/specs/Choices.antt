-- Choices of a target for each literal, and the candidates that are left.
use Rattle.std.specs.Prelude.{◌≡◌, ℕ, suc, ◌+◌, ◌*◌, ◌<◌, ◌≤◌, List, [], ◌∷◌, length, replicate, Some, None, Option, slice_index, slice_index_or, unwrap_or, ◌≢◌, ◌⊎◌}
use Rattle.std.proofs.Common.{lit≤}
use Rattle.std.proofs.lemmas.List.{length-replicate}
use Rattle.term.specs.declared.node.Node.TheVariants.{Variable}
use Rattle.subsume.specs.declared.bits.BitSet.{BitSet}
use Rattle.subsume.specs.declared.front.Front.{Front}
use Rattle.subsume.specs.declared.slot.Slot.{Slot}
use Rattle.subsume.specs.Bits.{bit_at, First}

-- no targets
abbrev pub none : BitSet 4
none = record { words = replicate 4 0; sized = length-replicate {A = ℕ} 4 0; few = lit≤ tt }

-- the targets that are left for literal i
abbrev pub row : List (BitSet 4) → (i : ℕ) → List ℕ
row sets i = (slice_index_or sets i none).words

-- 1 where the target j is left for literal i
abbrev pub left : List (BitSet 4) → (i j : ℕ) → ℕ
left sets i j = bit_at (row sets i) j

-- some of m literals has no target left
abbrev pub Spent : List (BitSet 4) → (m : ℕ) → Type 0
Spent sets m = (i : ℕ) × (i < m) × First (row sets i) None

-- each of m literals has its choice among n targets, and it is left
abbrev pub Among : List (BitSet 4) → (m n : ℕ) → (ℕ → ℕ) → Type 0
Among sets m n f = (i : ℕ) → i < m → (f i < n) × (left sets i (f i) ≡ 1)

-- nothing comes back
abbrev pub Fewer : (before after : List (BitSet 4)) (m n : ℕ) → Type 0
Fewer before after m n = (i j : ℕ) → i < m → j < n → left after i j ≡ 1 → left before i j ≡ 1

abbrev pub no_front : (N : ℕ) → Front N
no_front N = record {
  parent = 0;
  node = Variable 0;
  met = none;
  at = replicate N 0;
  labels = replicate N 0;
  placed = length-replicate {A = ℕ} N 0;
  sized = length-replicate {A = ℕ} N 0;
}

abbrev pub front_at : {N : ℕ} → List (Front N) → ℕ → Front N
front_at {N} fronts r = slice_index_or fronts r (no_front N)

abbrev pub no_slot : Slot
no_slot = record { literal = 0; variable = 0; before = None; front = 0 }

abbrev pub slot_at : List Slot → ℕ → Slot
slot_at slots s = slice_index_or slots s no_slot

-- an answer is one of the slots, and P holds of it
abbrev pub Standing : List Slot → (P : Slot → Type 0) → Option Slot → Type 0
Standing slots P (Some slot) = (s : ℕ) × (s < length slots) × (slot_at slots s ≡ slot) × P slot
Standing slots P None = Unit {0}

-- the labels of a slot's front
abbrev pub labels_of : {N : ℕ} → List (Front N) → Slot → List ℕ
labels_of fronts slot = (front_at fronts slot.front).labels

-- the label that the target j gives the variable of slot s
abbrev pub entry : {N : ℕ} → List (Front N) → List Slot → (s j : ℕ) → ℕ
entry fronts slots s j = slice_index (labels_of fronts (slot_at slots s)) j

-- a choice for each literal and a label for each variable agree with the table of labels
abbrev pub Fits : {N : ℕ} → List (Front N) → List Slot → (f v : ℕ → ℕ) → Type 0
Fits fronts slots f v = (s : ℕ) → s < length slots → entry fronts slots s (f (slot_at slots s).literal) ≡ v (slot_at slots s).variable

-- no choice that agrees with the table loses a candidate, and nothing comes back
pub record Pruned {N : ℕ} (fronts : List (Front N)) (slots : List Slot) (m n : ℕ) (before after : List (BitSet 4)) : Type 0 where
  pub keeps : (f v : ℕ → ℕ) → Fits fronts slots f v → Among before m n f → Among after m n f
  pub fewer : Fewer before after m n

-- the label is marked, or it is beyond those that can be
abbrev pub Shows : (marks : List ℕ) → (label : ℕ) → Type 0
Shows marks label = label < 64 * length marks → bit_at marks label ≡ 1

-- just the labels are marked that one of the first j targets gives which is in the set
pub record Given (words labels : List ℕ) (j : ℕ) (marks : List ℕ) : Type 0 where
  pub shown : (k : ℕ) → k < j → bit_at words k ≡ 1 → Shows marks (slice_index labels k)
  pub only : (l : ℕ) → bit_at marks l ≡ 1 → (k : ℕ) × (k < j) × (bit_at words k ≡ 1) × (slice_index labels k ≡ l)

-- the label that a choice gives the variable x is marked, where it agrees with the table
abbrev pub Shared : {N : ℕ} → List (Front N) → List Slot → (m n : ℕ) → List (BitSet 4) → (x : ℕ) → (marks : List ℕ) → Type 0
Shared fronts slots m n sets x marks = (f v : ℕ → ℕ) → Fits fronts slots f v → Among sets m n f → Shows marks (v x)

-- of the first j targets, just such were struck out as have no marked label
pub record Sifted (before after : List ℕ) (labels : List ℕ) (j : ℕ) (marks : List ℕ) : Type 0 where
  pub outside : (l : ℕ) → j ≤ l → bit_at after l ≡ bit_at before l
  pub kept : (i : ℕ) → i < j → bit_at before i ≡ 1 → Shows marks (slice_index labels i) → bit_at after i ≡ 1
  pub fewer : (i : ℕ) → i < j → bit_at after i ≡ 1 → bit_at before i ≡ 1
  pub marked : (i : ℕ) → i < j → bit_at after i ≡ 1 → Shows marks (slice_index labels i)

-- all targets but j were struck out
pub record Narrowed (before after : List ℕ) (j : ℕ) : Type 0 where
  pub here : bit_at after j ≡ bit_at before j
  pub only : (k : ℕ) → bit_at after k ≡ 1 → k ≡ j

-- an answer is the only target below n that is left
abbrev pub Settled : Option ℕ → List ℕ → (n : ℕ) → Type 0
Settled (Some j) words n = (j < n) × (j < 256) × ((k : ℕ) → k < 256 → bit_at words k ≡ 1 → k ≡ j) × (bit_at words j ≡ 1)
Settled None words n = Unit {0}

-- literal i takes the target j, and then candidates are struck out
pub record Taken {N : ℕ} (fronts : List (Front N)) (slots : List Slot) (m n : ℕ) (before : List (BitSet 4)) (i j : ℕ) (after : List (BitSet 4)) : Type 0 where
  pub mid : List (BitSet 4)
  pub others : (k : ℕ) → (k ≢ i) → row mid k ≡ row before k
  pub narrowed : Narrowed (row before i) (row mid i) j
  pub pruned : Pruned fronts slots m n mid after

-- the choice for literal i, or none, where it is still to be made; and the same, or 0
abbrev pub pick : List (Option ℕ) → (i : ℕ) → Option ℕ
pick picks i = slice_index_or picks i None

abbrev pub picked : List (Option ℕ) → (i : ℕ) → ℕ
picked picks i = unwrap_or (pick picks i) 0

-- each of m literals has its choice among n targets
abbrev pub Made : List (Option ℕ) → (m n : ℕ) → Type 0
Made picks m n = (i : ℕ) → i < m → (i < length picks) × (pick picks i ≡ Some (picked picks i)) × (picked picks i < n)

-- just the targets that are chosen for one of m literals are in the set
pub record Uses (picks : List (Option ℕ)) (m : ℕ) (words : List ℕ) : Type 0 where
  pub each : (i : ℕ) → i < m → (j : ℕ) → pick picks i ≡ Some j → bit_at words j ≡ 1
  pub only : (j : ℕ) → bit_at words j ≡ 1 → (i : ℕ) × (i < m) × (pick picks i ≡ Some j)

-- of n targets, those in a set have their turns first, and then the others
abbrev pub HasTurn : (first : List ℕ) → (n j k : ℕ) → Type 0
HasTurn first n j k = ((j ≡ k) × (bit_at first j ≡ 1)) ⊎ ((j + n ≡ k) × (bit_at first j ≡ 1 → ⊥))

-- an answer is the target that has the turn k; or none, where none has
abbrev pub Turn : (first : List ℕ) → (n k : ℕ) → Option ℕ → Type 0
Turn first n k (Some j) = (j < n) × HasTurn first n j k
Turn first n k None = (j : ℕ) → j < n → HasTurn first n j k → ⊥

-- how many of the choices are still to be made
abbrev pub undone : List (Option ℕ) → ℕ
undone [] = 0
undone (Some j ∷ picks) = undone picks
undone (None ∷ picks) = suc (undone picks)

-- a literal whose choice is still to be made; or none, where all of m are made
abbrev pub Chosen : Option ℕ → (m : ℕ) → List (Option ℕ) → Type 0
Chosen (Some i) m picks = (i < m) × (pick picks i ≡ None)
Chosen None m picks = (i : ℕ) → i < m → pick picks i ≡ Some (picked picks i)

-- where a choice is made, it is one of n targets, and no other is left
pub record Picked (sets : List (BitSet 4)) (m n : ℕ) (picks : List (Option ℕ)) : Type 0 where
  pub within : (i : ℕ) → i < m → (j : ℕ) → pick picks i ≡ Some j → j < n
  pub alone : (i : ℕ) → i < m → (j : ℕ) → pick picks i ≡ Some j → (k : ℕ) → k < n → left sets i k ≡ 1 → k ≡ j

-- no target that is left, and none that is chosen, is in the set
pub record Clear (gone : List ℕ) (sets : List (BitSet 4)) (m n : ℕ) (picks : List (Option ℕ)) : Type 0 where
  pub lefts : (i : ℕ) → i < m → (j : ℕ) → j < n → left sets i j ≡ 1 → bit_at gone j ≡ 0
  pub chosen : (i : ℕ) → i < m → (j : ℕ) → pick picks i ≡ Some j → bit_at gone j ≡ 0

-- none of the choices is in the set
abbrev pub Avoids : (gone : List ℕ) (m : ℕ) → List (Option ℕ) → Type 0
Avoids gone m picks = (i : ℕ) → i < m → bit_at gone (picked picks i) ≡ 0

-- just the targets in the set were struck out
pub record Removed (gone : List ℕ) (before after : List ℕ) : Type 0 where
  pub kept : (j : ℕ) → bit_at before j ≡ 1 → bit_at gone j ≡ 0 → bit_at after j ≡ 1
  pub fewer : (j : ℕ) → bit_at after j ≡ 1 → (bit_at before j ≡ 1) × (bit_at gone j ≡ 0)

-- of m literals, those that begin at `start` lose all of n targets but j; no choice is lost that gives them this one
pub record Holding (m n : ℕ) (begins : ℕ → ℕ) (start j : ℕ) (before after : List (BitSet 4)) : Type 0 where
  pub keeps : (f : ℕ → ℕ) → Among before m n f → ((k : ℕ) → k < m → begins k ≡ start → f k ≡ j) → Among after m n f
  pub fewer : Fewer before after m n
  pub long : length after ≡ length before
