use Rattle.std.proofs.Common.{◌≡◌, ◌≤◌, List, ◌∷◌, length, string_bytes, sym, refl, ap, ◌∙◌, subst, arith}
use Rattle.term.specs.Coding.{code}
use Rattle.term.specs.Words.{Word}
use Rattle.term.proofs.Codings.{meant}
use Rattle.place.specs.Faults.{told}
use Rattle.place.specs.Packing.{read_place}
use Rattle.place.specs.Places.{meaning}
use Rattle.word.proofs.Becoming.{became, stayed}
use Rattle.gathering.specs.Gathered.{Told, one_entry}
use Rattle.gathering.specs.Lines.{taken_line}
use Rattle.gathering.specs.States.{Gathers}
use Rattle.gathering.proofs.Bounds.{PlaceBy, place-by}
use Rattle.std.proofs.lemmas.Result.{IfOk-weaker}
use Rattle.gathering.proofs.taking.Gatherer.turn.Goals as goal

pub overflow_add-start : goal.overflow_add-start
overflow_add-start c =
    let bytes = c.args.bytes.now in
    let is = stayed _ (read_place bytes) c.new-place.result c.read.new.self c.in-Err.fault c.in-Err.ensures.value in
    let inside : (told c.in-Err.fault).1 ≤ length bytes = subst (PlaceBy bytes) is (place-by bytes) in
    record { fits = omega (arith, c.requires, c.byte.ensures, inside) }

pub returns-in-Ok : goal.returns-in-Ok
returns-in-Ok c =
    let bytes = c.args.bytes.now in
    let place = c.read.new.self in
    let after = c.take.new.self.class in
    let is = became _ (read_place bytes) c.new-place.result place c.in-Ok.ensures.value in
    let one : (ms : List Word) → (taken_line ms, meaning place ∷ ms) ≡ one_entry c.args.start ms (read_place bytes) =
    λ ms. ap (λ (w : Word). (taken_line ms, w ∷ ms)) (sym (meant (meaning place) (code (meaning place)) refl)) ∙ ap (one_entry c.args.start ms) (sym is) in
    IfOk-weaker c.take.result _ _
    (λ s goes ms g. subst (λ (o : Told). Gathers o.1 after × (string_bytes s ≡ o.0)) (one ms) (goes ms g))
    c.take.ensures
