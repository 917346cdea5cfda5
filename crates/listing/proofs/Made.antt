-- The two parts of a listing that was made, and the listing of what could not be read.
use Rattle.std.proofs.Common.{◌≡◌, ℕ, List, IfOk, Ok, Err, Some, Result, sym, ap, ◌∙◌}
use Rattle.word.specs.Becomes.{Becomes}
use Rattle.word.proofs.Becoming.{stayed}
use Rattle.listing.specs.FaultLines.{told_of}

pub made : {X E A B : Type 0} (f : X → A) (g : X → B) (r : Result X E) (a : A) (b : B) (all : A × B) → IfOk r (λ x. f x ≡ a) → IfOk r (λ x. g x ≡ b) → all ≡ (a, b)
    → IfOk r (λ x. ◌≡◌ {A = A × B} (f x, g x) all)
made f g (Ok x) a b all p q e = (λ i. (p i, q i)) ∙ sym e
made f g (Err e) a b all p q h = tt

pub told_refused : {T X F : Type 0} (view : T → X) (show : X → List ℕ) (line : F → List ℕ) (R : Result X F) (before after : T) (fault : F) → Becomes view R before (Err fault) after
    → told_of show line R ≡ (line fault, Some fault)
told_refused view show line R before after fault b = ap (told_of show line) (stayed view R before after fault b)
