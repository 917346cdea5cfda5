use Rattle.std.proofs.Common.{rules}
use Rattle.record.specs.Reads.{head_at}
use Rattle.record.proofs.literal.read_head.Goals as goal

pub returns-in_err-value : goal.returns-in_err-value
unfolding head_at
returns-in_err-value c = search rules

pub returns-then-held-ge-NODES : goal.returns-then-held-ge-NODES
unfolding head_at
returns-then-held-ge-NODES c = search rules

pub returns-in_err-places : goal.returns-in_err-places
unfolding head_at
returns-in_err-places c = search rules

pub returns-then-places-gt-PLACES : goal.returns-then-places-gt-PLACES
unfolding head_at
returns-then-places-gt-PLACES c = search rules

pub returns : goal.returns
unfolding head_at
returns c = search rules
