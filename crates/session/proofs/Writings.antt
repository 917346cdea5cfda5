-- Texts put into a buffer one after the other.
use Rattle.std.proofs.Common.{◌≡◌, ℕ, ◌≤◌, List, [], ◌++◌, length, take, drop, Ok, sym, ap, ◌∙◌, append_assoc, arith, length-append}
use Rattle.std.proofs.lemmas.List.{take-append-drop, take_at, length-take-le, length-drop}
use Rattle.std.proofs.lemmas.Slice.{drop-append-drop}
use Rattle.number.specs.Writes.{Wrote}

-- nothing is put
pub wrote-none : (at : ℕ) (out : List ℕ) → at ≤ length out → Wrote [] at out (Ok at) out
wrote-none at out h = (omega arith, h, sym (take-append-drop at out))

module _ (t : List ℕ) (at mid : ℕ) (a b : List ℕ) (w : Wrote t at a (Ok mid) b) where
  -- the buffer keeps its length
  pub length-wrote : length b ≡ length a
  length-wrote =
      ap length w.2
      ∙ omega (arith, w.0, w.1, length-append (take at a) (t ++ drop mid a), length-append t (drop mid a), length-take-le at a (omega (arith, w.0, w.1)), length-drop mid a)

  -- a text after it
  pub wrote-next : (u : List ℕ) (to : ℕ) (c : List ℕ) → Wrote u mid b (Ok to) c → Wrote (t ++ u) at a (Ok to) c
  wrote-next u to c v =
      let n = length-wrote in
      let front : mid ≡ length (take at a ++ t) = omega (arith, w.0, w.1, length-append (take at a) t, length-take-le at a (omega (arith, w.0, w.1))) in
      let same : b ≡ (take at a ++ t) ++ drop mid a = w.2 ∙ sym (append_assoc (take at a) t (drop mid a)) in
      let before : take mid b ≡ take at a ++ t = ap (take mid) same ∙ take_at (take at a ++ t) (drop mid a) mid (sym front) in
      let beyond : drop to b ≡ drop to a = ap (drop to) same ∙ drop-append-drop mid a (take at a ++ t) to (omega (arith, v.0)) (sym front) in (
        omega (arith, w.0, v.0, length-append t u),
        omega (arith, v.1, n),
        v.2 ∙ rw (before, beyond) (append_assoc (take at a) t (u ++ drop to a) ∙ ap (λ (l : List ℕ). take at a ++ l) (sym (append_assoc t u (drop to a)))),
      )
