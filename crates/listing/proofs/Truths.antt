-- A listing is true to its input.
use Rattle.std.proofs.Common.{◌≡◌, ℕ, zero, suc, ◌+◌, ◌-◌, ◌<◌, ◌≤◌, List, [], ◌∷◌, ◌++◌, length, get_or, drop, Some, None, Ok, Err, Option, Result, sym, refl, ap, ◌∙◌, subst, inl, inr, append_assoc, sub-one, arith, length-append}
use Rattle.std.specs.List.{flat_map}
use Rattle.std.proofs.lemmas.List.{drop_all, drop-drop, take-append-drop, length-take-le, length-drop}
use Rattle.std.proofs.lemmas.Bool.{cases_lt}
use Rattle.number.specs.declared.fault.NumberFault.{NumberFault}
use Rattle.number.specs.Forms.{form}
use Rattle.number.specs.Reads.{read_number, Exactly}
use Rattle.number.proofs.Exact.{exactly, again}
use Rattle.listing.specs.Lines.{after, number_line, count_line, fault_line}
use Rattle.listing.specs.Listed.{Told, listed_from, listed, lines, Ends, Faithful}
use Rattle.listing.proofs.Turns.{from_end, from_more, from-fault}

-- the same from a place on, after some numbers
abbrev EndsFrom : (input : List ℕ) (at count : ℕ) (values rest text : List ℕ) → Option NumberFault → Type 0
EndsFrom input at count values rest text None = (rest ≡ []) × (text ≡ lines at values ++ count_line (count + length values))
EndsFrom input at count values rest text (Some fault) = (read_number input (at + length (flat_map form values)) ≡ Err fault) × (text ≡ lines at values ++ fault_line fault)

record From (input : List ℕ) (at count : ℕ) (told : Told) : Type 0 where
  values : List ℕ
  rest : List ℕ
  split : drop at input ≡ flat_map form values ++ rest
  ends : EndsFrom input at count values rest told.0 told.1

-- nothing is left
none_left : (input : List ℕ) (at count : ℕ) → length input ≤ at → From input at count (count_line count, None)
none_left input at count h =
    let z : count + 0 ≡ count = omega arith in
    record { values = []; rest = []; split = drop_all at input h; ends = (refl, ap count_line (sym z)) }

-- no number begins
fault-left : (input : List ℕ) (at count : ℕ) (fault : NumberFault) → read_number input at ≡ Err fault → From input at count (fault_line fault, Some fault)
fault-left input at count fault e =
    let z : at + 0 ≡ at = omega arith in
    record { values = []; rest = drop at input; split = refl; ends = (ap (read_number input) z ∙ e, refl) }

-- a number before the others
ends_more : (input : List ℕ) (at count value : ℕ) (values rest text : List ℕ) (o : Option NumberFault)
    → EndsFrom input (at + length (form value)) (count + 1) values rest text o → EndsFrom input at count (value ∷ values) rest (number_line at value ++ text) o
ends_more input at count value values rest text None h =
    let n : count + 1 + length values ≡ count + suc (length values) = omega arith in
    (h.0, ap (λ (l : List ℕ). number_line at value ++ l) (h.1 ∙ ap (λ (k : ℕ). lines (at + length (form value)) values ++ count_line k) n) ∙ sym (append_assoc (number_line at value) (lines (at + length (form value)) values) (count_line (count + suc (length values)))))
ends_more input at count value values rest text (Some fault) h =
    let n : at + length (form value ++ flat_map form values) ≡ at + length (form value) + length (flat_map form values) = omega (arith, length-append (form value) (flat_map form values)) in
    (ap (read_number input) n ∙ h.0, ap (λ (l : List ℕ). number_line at value ++ l) h.1 ∙ sym (append_assoc (number_line at value) (lines (at + length (form value)) values) (fault_line fault)))

number-before : (input : List ℕ) (at count : ℕ) (p : ℕ × ℕ) (told : Told) → Exactly input at (Ok p) → From input p.1 (count + 1) told → From input at count (after (number_line at p.0) told)
number-before input at count p told x f =
    let bytes = again input at (Ok p) x in
    let beyond : at + (p.1 - at) ≡ p.1 = omega (arith, x.0) in
    let cut : drop at input ≡ form p.0 ++ drop p.1 input =
    sym (take-append-drop (p.1 - at) (drop at input)) ∙ ap (λ (l : List ℕ). l ++ drop (p.1 - at) (drop at input)) bytes ∙ ap (λ (l : List ℕ). form p.0 ++ l) (drop-drop (p.1 - at) at input ∙ ap (λ (n : ℕ). drop n input) beyond) in
    let long : p.1 ≡ at + length (form p.0) = omega (arith, x.0, ap length bytes, length-take-le (p.1 - at) (drop at input) (omega (arith, x.0, x.1, length-drop at input))) in
    record {
      values = p.0 ∷ f.values;
      rest = f.rest;
      split = cut ∙ ap (λ (l : List ℕ). form p.0 ++ l) f.split ∙ sym (append_assoc (form p.0) (flat_map form f.values) f.rest);
      ends = ends_more input at count p.0 f.values f.rest told.0 told.1 (subst (λ (n : ℕ). EndsFrom input n (count + 1) f.values f.rest told.0 told.1) long f.ends);
    }

-- one turn, where the turns after it are known
turn : (turns : ℕ) (input : List ℕ) (at count : ℕ) → ((i : ℕ) → get_or input i 0 < 256) → at < length input → length input - at ≤ turns
    → ((p : ℕ × ℕ) → at < p.1 → From input p.1 (count + 1) (listed_from (turns - 1) input p.1 (count + 1)))
    → (r : Result (ℕ × ℕ) NumberFault) → r ≡ read_number input at → From input at count (listed_from turns input at count)
turn turns input at count bytes h g on (Ok p) e =
    let x = exactly input at bytes (Ok p) e in
    subst (From input at count) (sym (from_more turns input at count h g p (sym e))) (number-before input at count p (listed_from (turns - 1) input p.1 (count + 1)) x (on p x.0))
turn turns input at count bytes h g on (Err fault) e =
    subst (From input at count) (sym (from-fault turns input at count h g fault (sym e))) (fault-left input at count fault (sym e))

from-listed : (turns : ℕ) (input : List ℕ) (at count : ℕ) → ((i : ℕ) → get_or input i 0 < 256) → length input - at ≤ turns → From input at count (listed_from turns input at count)
from-listed zero input at count bytes g = subst (From input at count) (sym (from_end zero input at count (omega arith))) (none_left input at count (omega arith))
from-listed (suc turns) input at count bytes g = elim (cases_lt at (length input)) [
  | inl h ↦ turn (suc turns) input at count bytes h g (λ p l. rw sub-one (from-listed turns input p.1 (count + 1) bytes (omega arith))) (read_number input at) refl
  | inr h ↦ subst (From input at count) (sym (from_end (suc turns) input at count h)) (none_left input at count h)
]

ends-from : (input values rest text : List ℕ) (o : Option NumberFault) → EndsFrom input 0 0 values rest text o → Ends input values rest text o
ends-from input values rest text None h = let z : 0 + length values ≡ length values = omega arith in (h.0, h.1 ∙ ap (λ (n : ℕ). lines 0 values ++ count_line n) z)
ends-from input values rest text (Some fault) h = let z : 0 + length (flat_map form values) ≡ length (flat_map form values) = omega arith in (ap (read_number input) (sym z) ∙ h.0, h.1)

pub faithful : (input : List ℕ) → ((i : ℕ) → get_or input i 0 < 256) → (told : Told) → told ≡ listed input → Faithful input told
unfolding listed
faithful input bytes told e =
    let f : From input 0 0 told = subst (From input 0 0) (sym e) (from-listed (length input) input 0 0 bytes (omega arith)) in
    record { values = f.values; rest = f.rest; split = f.split; ends = ends-from input f.values f.rest told.0 told.1 f.ends }
