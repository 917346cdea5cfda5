use Rattle.std.proofs.Common.{◌++◌, codes, None, sym, refl, ap, ◌∙◌}
use Rattle.term.specs.Coding.{code}
use Rattle.term.proofs.Codings.{meant}
use Rattle.place.specs.Packing.{read_place}
use Rattle.place.specs.Places.{meaning}
use Rattle.word.proofs.Becoming.{became}
use Rattle.listing.specs.PlaceLines.{place_listed}
use Rattle.listing.specs.Shown.{shown}
use Rattle.listing.proofs.Made.{made}
use Rattle.listing.proofs.places.list_place.Goals as goal

pub returns-in_ok-show_place-in-Ok : goal.returns-in_ok-show_place-in-Ok
unfolding place_listed
returns-in_ok-show_place-in-Ok c =
    let p = c.read.new.self in
    let read = became _ (read_place c.args.input.now) c.new-place.result p c.in-Ok.ensures.value in
    let word = c.in_ok-show_place-in-Ok.ensures ∙ ap shown (sym (meant (meaning p) (code (meaning p)) refl)) in
    made _ _ c.whole.result _ _ (place_listed (read_place c.args.input.now)) c.whole.ensures.text c.whole.ensures.fault (ap place_listed read ∙ (λ i. (sym word i ++ codes "\n", None)))
