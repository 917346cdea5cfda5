use Rattle.std.proofs.Common.{◌∙◌, set, arith}
use Rattle.std.proofs.lemmas.List.{get_or-set_same}
use Rattle.subsume.proofs.Columns.{labels-given}
use Rattle.subsume.proofs.Sets.{other-word}
use Rattle.subsume.proofs.column.Column.labels.Goals as goal

pub returns : goal.returns
returns g c met labels s =
    let words = c.new-labels.result.words in
    let given = c.args.self.now.given in
    labels-given c.args.self.now met labels (set words 0 given) s (get_or-set_same words 0 given 0 (omega (arith, c.requires.0, c.new-labels.result.sized)))
    (λ l h. other-word words 0 given l (λ e. omega (arith, e, h)) ∙ c.new-labels.ensures l)
