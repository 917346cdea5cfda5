use Rattle.std.proofs.Common.{refl}
use Rattle.record.specs.Reads.{read_record}
use Rattle.word.proofs.Becoming.{became}
use Rattle.listing.proofs.coverings.list_covering.Goals as goal

pub returns : goal.returns
returns c =
    let rule = became _ (read_record c.args.rule.now) c.new-first.result c.read.new.self c.in_default.ensures.value in
    let mount = became _ (read_record c.args.mount.now) c.new-second.result c.read-2.new.self c.in_default-read.ensures.value in
    rw (rule, mount) (c.in_ok-explain.ensures, refl)
