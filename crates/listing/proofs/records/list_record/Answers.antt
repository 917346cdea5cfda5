use Rattle.std.proofs.Common.{◌++◌, codes, None, sym, ap, ◌∙◌}
use Rattle.record.specs.Reads.{read_record}
use Rattle.word.proofs.Becoming.{became}
use Rattle.listing.specs.RecordLines.{record_listed}
use Rattle.listing.proofs.Made.{made}
use Rattle.listing.proofs.records.list_record.Goals as goal

pub returns-in_ok-show_record-in-Ok : goal.returns-in_ok-show_record-in-Ok
unfolding record_listed
returns-in_ok-show_record-in-Ok c =
    let r = c.read.new.self in
    let read = became _ (read_record c.args.input.now) c.new-record.result r c.in-Ok.ensures.value in
    let text = c.in_ok-show_record-in-Ok.ensures in
    made _ _ c.whole.result _ _ (record_listed (read_record c.args.input.now)) c.whole.ensures.text c.whole.ensures.fault (ap record_listed read ∙ (λ i. (sym text i ++ codes "\n", None)))
