use Rattle.std.proofs.Common.{rules}
use Rattle.word.specs.Reads.{node_at}
use Rattle.word.proofs.reading.read_node.Goals as goal

pub returns-then-value-eq0 : goal.returns-then-value-eq0
unfolding node_at
returns-then-value-eq0 c = search rules

pub returns-else-value-eq0 : goal.returns-else-value-eq0
unfolding node_at
returns-else-value-eq0 c = search rules
