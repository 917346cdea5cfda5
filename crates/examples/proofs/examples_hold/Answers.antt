use Rattle.std.proofs.Common.{[], refl, arith}
use lib.Count.{count_leading_zeros}
use Rattle.number.specs.Forms.{form}
use Rattle.number.specs.Groups.{groups}
use Rattle.term.specs.Joins.{both_decided, Symbol-discrete, alike_decided, same_decided}
use Rattle.word.specs.Packed.{packed}
use Rattle.clauses.specs.Reduction.Tidies.{done}
use Rattle.clauses.specs.Joins.{fit_decided}
use Rattle.examples.proofs.Coverings.{one-step}
use Rattle.examples.proofs.Tidyings.{to-constant, to-variable, both-stay, two-stay}
use Rattle.examples.proofs.Witnesses.{at-three}
use Rattle.examples.proofs.examples_hold.Goals as goal

pub returns : goal.returns
unfolding both_decided Symbol-discrete alike_decided same_decided fit_decided form groups count_leading_zeros packed
returns c = (
  refl,
  (
    refl,
    (
      refl,
      (
        one-step,
        (
          at-three,
          (
            (_, to-constant, refl),
            ((_, to-variable, refl), ((_, both-stay, refl), ((_, two-stay, refl), (([], done (omega arith), refl), tt)))),
          ),
        ),
      ),
    ),
  ),
)
