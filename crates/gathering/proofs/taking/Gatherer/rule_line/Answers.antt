use Rattle.std.proofs.Common.{◌≡◌, ℕ, List, ◌++◌, IfOk, string_bytes, codes, Option, ap, ◌∙◌, subst, rules}
use Rattle.class.specs.declared.classes.Class.{Class}
use Rattle.place.specs.declared.placed.PlaceWord.{PlaceWord}
use Rattle.gathering.specs.States.{Gathers}
use Rattle.gathering.proofs.Takes.{ruled}
use Rattle.std.proofs.lemmas.Result.{IfOk-weaker}
use Rattle.gathering.proofs.taking.Gatherer.rule_line.Goals as goal

pub returns-in_ok-rule-in-Some : goal.returns-in_ok-rule-in-Some
returns-in_ok-rule-in-Some c =
    let text : IfOk c.format-in-Some.result (λ s. string_bytes s ≡ codes "rule " ++ (string_bytes c.in_ok-rule-in-Some.rule ++ codes "\n")) = search rules in
    IfOk-weaker c.format-in-Some.result _ _
    (λ s e ms g.
    ruled ms c.in-Some.class c.rule.result.now (string_bytes s)
    (subst (λ (o : Option (Class PlaceWord)). Gathers ms o) c.in-Some.is g)
    (c.rule.ensures ∙ c.issue-issued.ensures.rule)
    (e ∙ ap (λ (l : List ℕ). codes "rule " ++ (l ++ codes "\n")) c.in_ok-rule-in-Some.ensures))
    text
