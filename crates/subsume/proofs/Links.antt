-- The table of labels, slot by slot.
use Rattle.std.proofs.Common.{◌≡◌, ℕ, ◌+◌, ◌<◌, List, [], ◌∷◌, ◌++◌, length, get_or, drop, Ok, Err, Result, sym, ap, ◌∙◌, subst, ⊎_elim, arith}
use Rattle.std.proofs.lemmas.List.{get_or_append_left, get_or_push, length_push}
use Rattle.std.proofs.lemmas.Bool.{cases_eq}
use Rattle.bounded.specs.declared.list.Full.{Full}
use Rattle.bounded.specs.Elems.{Pushed}
use Rattle.term.specs.Coding.{hd, word_at}
use Rattle.term.specs.Words.{var}
use Rattle.term.specs.declared.node.Node.{Node}
use Rattle.term.specs.declared.node.Node.TheVariants.{Variable}
use Rattle.term.proofs.Codings.{at_words}
use Rattle.term.proofs.Matchings.{turns-variable}
use Rattle.subsume.specs.declared.front.Front.{Front}
use Rattle.subsume.specs.declared.slot.Slot.{Slot}
use Rattle.subsume.specs.Choices.{no_slot, slot_at, labels_of}
use Rattle.subsume.specs.Solving.{Named, Linked}

pub variable-at : (nodes : List Node) (p x : ℕ) → p < length nodes → get_or nodes p (Variable 0) ≡ Variable x → word_at nodes p ≡ var x
variable-at nodes p x h e = ap hd (at_words nodes p (Variable 0) h) ∙ turns-variable (get_or nodes p (Variable 0)) (drop (p + 1) nodes) x e

module _ (N : List Node) (S : List ℕ) (M : List Node) (T : List ℕ) {C : ℕ} (fronts : List (Front C)) where
  pub linked-more : (slots : List Slot) (slot : Slot) → Linked N S M T fronts slots → slot.literal < length S → slot.front < length fronts
      → Named N S M T slot.literal slot.variable (labels_of fronts slot) → Linked N S M T fronts (slots ++ slot ∷ [])
  linked-more slots slot linked own inside named s h =
      let P : Slot → Type 0 = λ (z : Slot). (z.literal < length S) × Named N S M T z.literal z.variable (labels_of fronts z) × (z.front < length fronts) in
      ⊎_elim
      (λ (e : s ≡ length slots).
      let here : slot_at (slots ++ slot ∷ []) s ≡ slot = get_or_push slots slot no_slot s (sym e) in
      subst P (sym here) (own, named, inside))
      (λ e.
      let before : s < length slots = omega (arith, length_push slots slot, e) in
      let here : slot_at (slots ++ slot ∷ []) s ≡ slot_at slots s = get_or_append_left slots (slot ∷ []) no_slot s before in
      subst P (sym here) (linked s before))
      (cases_eq s (length slots))

  pub linked-pushed : (K : ℕ) (slots after : List Slot) (slot : Slot) (r : Result (Unit {0}) Full) → Pushed K slot slots r after → Linked N S M T fronts slots → slot.literal < length S
      → slot.front < length fronts → Named N S M T slot.literal slot.variable (labels_of fronts slot) → Linked N S M T fronts after
  linked-pushed K slots after slot (Ok u) p linked own inside named = subst (Linked N S M T fronts) (sym p.1) (linked-more slots slot linked own inside named)
  linked-pushed K slots after slot (Err u) p linked own inside named = subst (Linked N S M T fronts) (sym p.1) linked
