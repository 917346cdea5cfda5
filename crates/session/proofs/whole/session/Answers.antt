use Rattle.std.proofs.Common.{length, refl, arith}
use Rattle.std.proofs.lemmas.Bool.{lt-leb}
use Rattle.session.proofs.Lengths.{bad-fits, fits}
use Rattle.session.proofs.Lawfulness.{under-law}
use Rattle.session.proofs.Oneness.{one-text}
use Rattle.session.proofs.Underway.{rule-fits, written}
use Rattle.session.proofs.whole.session.Goals as goal

pub returns-then-out-lt-BUFFER-clause-one : goal.returns-then-out-lt-BUFFER-clause-one
returns-then-out-lt-BUFFER-clause-one c = one-text c.args.input.now

pub returns-then-out-lt-BUFFER-clause-fits : goal.returns-then-out-lt-BUFFER-clause-fits
returns-then-out-lt-BUFFER-clause-fits c = fits c.args.input.now

pub returns-then-out-lt-BUFFER-clause-law : goal.returns-then-out-lt-BUFFER-clause-law
returns-then-out-lt-BUFFER-clause-law c = under-law c.args.input.now

pub put-requires : goal.put-requires
put-requires c = bad-fits _ _ _ _ (omega arith) (omega arith) (omega arith)

pub returns-then-input-gt-INPUT-clause-answers : goal.returns-then-input-gt-INPUT-clause-answers
returns-then-input-gt-INPUT-clause-answers c = (omega arith, (_, rw (lt-leb (length c.args.input.now) 4096 (omega arith)) refl, c.put.ensures))

pub returns-then-input-gt-INPUT-clause-one : goal.returns-then-input-gt-INPUT-clause-one
returns-then-input-gt-INPUT-clause-one c = one-text c.args.input.now

pub returns-then-input-gt-INPUT-clause-fits : goal.returns-then-input-gt-INPUT-clause-fits
returns-then-input-gt-INPUT-clause-fits c = fits c.args.input.now

pub returns-then-input-gt-INPUT-clause-law : goal.returns-then-input-gt-INPUT-clause-law
returns-then-input-gt-INPUT-clause-law c = under-law c.args.input.now

pub put_rule-requires : goal.put_rule-requires
put_rule-requires c =
    rule-fits c.args.input.now c.put_lines-to.result.0.class c.args.out.now c.put_lines-to.result.1 c.put_lines-to.new.out c.put_lines-to.ensures (omega arith)

pub returns-clause-answers : goal.returns-clause-answers
returns-clause-answers c = (
  omega arith,
  written c.args.input.now c.put_lines-to.result.0.class c.args.out.now c.put_lines-to.result.1 c.put_lines-to.new.out c.put_lines-to.ensures (omega arith) c.put_rule.result c.put_rule.new.out c.put_rule.ensures,
)

pub returns-clause-one : goal.returns-clause-one
returns-clause-one c = one-text c.args.input.now

pub returns-clause-fits : goal.returns-clause-fits
returns-clause-fits c = fits c.args.input.now

pub returns-clause-law : goal.returns-clause-law
returns-clause-law c = under-law c.args.input.now
