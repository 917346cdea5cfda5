use Rattle.std.proofs.Common.{◌≡◌, List, [], ◌∷◌, Option, sym, ap, ◌∙◌, subst}
use Rattle.class.specs.declared.classes.Class.{Class}
use Rattle.place.specs.declared.placed.PlaceWord.{PlaceWord}
use Rattle.place.specs.Places.{meaning}
use Rattle.term.specs.Words.{Word}
use Rattle.gathering.specs.Lines.{taken_line}
use Rattle.gathering.specs.States.{Gathers, Gathering}
use Rattle.gathering.proofs.Takes.{begins}
use Rattle.std.proofs.lemmas.Result.{IfOk-weaker}
use Rattle.gathering.proofs.taking.Gatherer.take.Goals as goal

pub returns-in-None : goal.returns-in-None
returns-in-None c =
    IfOk-weaker c.format.result _ _
    (λ s e ms g.
    let none : ms ≡ [] = subst (λ (o : Option (Class PlaceWord)). Gathers ms o) c.in-None.is g in (
      subst (λ (l : List Word). Gathering (meaning c.args.place ∷ l) c.begin.result) (sym none) (begins c.args.place c.begin.result c.begin.ensures.law),
      e ∙ sym (ap taken_line none),
    ))
    c.format.ensures.ok
