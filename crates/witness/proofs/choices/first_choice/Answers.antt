use Rattle.witness.proofs.choices.first_choice.Goals as goal

pub returns : goal.returns
returns c = rw (c.view.ensures.literals, c.view-2.ensures.literals) at c.first_choice.ensures
