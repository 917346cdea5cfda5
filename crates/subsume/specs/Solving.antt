-- Choices that some substitution makes, by nodes and where literals begin.
use Rattle.std.specs.Prelude.{◌≡◌, ℕ, suc, ◌+◌, ◌<◌, List, length, slice_index, slice_index_or}
use Rattle.term.specs.Matched.{Turns}
use Rattle.term.specs.Words.{Word}
use Rattle.term.specs.declared.node.Node.{Node}
use Rattle.term.specs.declared.node.Node.TheVariants.{Variable}
use Rattle.subsume.specs.declared.bits.BitSet.{BitSet}
use Rattle.subsume.specs.declared.front.Front.{Front}
use Rattle.subsume.specs.declared.slot.Slot.{Slot}
use Rattle.subsume.specs.Bits.{bit_at}
use Rattle.subsume.specs.Choices.{row, Among, front_at, slot_at, labels_of}
use Rattle.subsume.specs.Fronts.{stands, HasNodes, Leads}
use Rattle.subsume.specs.Meeting.{place_of, Reached}

module _ (N : List Node) (S : List ℕ) (M : List Node) (T : List ℕ) where
  -- the substitution turns literal i of the one into literal j of the other
  abbrev pub TurnsAt : (ℕ → Word) → (i j : ℕ) → Type 0
  TurnsAt θ i j = Turns N (slice_index S i) M (slice_index T j) θ

  -- one substitution turns each literal into the one that is chosen for it
  abbrev pub Works : (ℕ → ℕ) → Type 0
  Works f = (θ : ℕ → Word) × ((i : ℕ) → i < length S → TurnsAt θ i (f i))

  -- the label of each target is the first place where the word stands that it gives the variable x of literal i
  abbrev pub Named : (i x : ℕ) → List ℕ → Type 0
  Named i x labels = (j : ℕ) → j < length T → (θ : ℕ → Word) → TurnsAt θ i j → slice_index labels j ≡ place_of M (θ x)

  -- the same for each slot of the table, by the labels of its front
  abbrev pub Linked : {C : ℕ} → List (Front C) → List Slot → Type 0
  Linked fronts slots =
      (s : ℕ) → s < length slots
      → ((slot_at slots s).literal < length S)
      × Named (slot_at slots s).literal (slot_at slots s).variable (labels_of fronts (slot_at slots s))
      × ((slot_at slots s).front < length fronts)

  -- the first k nodes of literal i lead to front r
  abbrev pub LeadsAt : {C : ℕ} → List (Front C) → (i k r : ℕ) → Type 0
  LeadsAt fronts i k r = (i < length S) × HasNodes N (slice_index S i) k × Leads fronts N (slice_index S i) k r

  -- front 0 is there; a front is where each literal stands whose nodes lead to it; and its labels are what the targets give
  -- the variable, where one led to it
  pub record Fronted {C : ℕ} (fronts : List (Front C)) : Type 0 where
    pub some : 0 < length fronts
    pub reached : (r i k : ℕ) → r < length fronts → LeadsAt fronts i k r → (j : ℕ) → j < length T → Reached N (slice_index S i) (slice_index S i + k) M (slice_index T j) (stands (front_at fronts r) j)
    pub named : (r i k x : ℕ) → LeadsAt fronts i (suc k) r → slice_index_or N (slice_index S i + k) (Variable 0) ≡ Variable x → Named i x (front_at fronts r).labels

  -- every target that literal i can be turned into is in the set
  abbrev pub OpenAt : (i : ℕ) → List ℕ → Type 0
  OpenAt i words = (j : ℕ) → j < length T → (θ : ℕ → Word) → TurnsAt θ i j → bit_at words j ≡ 1

  -- and it is left for it, of the first m literals
  abbrev pub Open : List (BitSet 4) → (m : ℕ) → Type 0
  Open sets m = (i : ℕ) → i < m → OpenAt i (row sets i)

  -- some choice of targets works
  abbrev pub Solved : Type 0
  Solved = (f : ℕ → ℕ) × ((i : ℕ) → i < length S → f i < length T) × Works f

  -- some choice works whose targets are left
  abbrev pub Hopeful : List (BitSet 4) → Type 0
  Hopeful sets = (f : ℕ → ℕ) × Among sets (length S) (length T) f × Works f

  -- every choice that works is left
  abbrev pub Spared : List (BitSet 4) → Type 0
  Spared sets = (f : ℕ → ℕ) → ((i : ℕ) → i < length S → f i < length T) → Works f → Among sets (length S) (length T) f

  -- a choice leaves each literal where it is that begins where a target of the set does
  abbrev pub Holds : (kept : List ℕ) → (ℕ → ℕ) → Type 0
  Holds kept f = (i j : ℕ) → i < length S → j < length T → bit_at kept j ≡ 1 → slice_index S i ≡ slice_index T j → f i ≡ j

  -- each choice that works, takes none of the targets that are gone and leaves these where they are is left
  abbrev pub SparedOutside : (kept gone : List ℕ) → List (BitSet 4) → Type 0
  SparedOutside kept gone sets =
      (f : ℕ → ℕ) → ((i : ℕ) → i < length S → (f i < length T) × (bit_at gone (f i) ≡ 0)) → Works f → Holds kept f → Among sets (length S) (length T) f
