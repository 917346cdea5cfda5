use Rattle.std.proofs.Common.{◌≤◌, length, subst, arith}
use Rattle.record.specs.Faults.{told}
use Rattle.record.specs.Reads.{read_record}
use Rattle.record.specs.Records.{literals}
use Rattle.word.proofs.Becoming.{became, stayed}
use Rattle.session.proofs.Bounds.{RecordBy, record-by}
use Rattle.session.proofs.Takings.{goes-record, goes-fault}
use Rattle.session.proofs.taking.Gatherer.turn.Goals as goal

pub overflow_add-result : goal.overflow_add-result
overflow_add-result c =
    let bytes = c.args.bytes.now in
    let is = stayed literals (read_record bytes) c.new-record.result c.read.new.self c.in-Err.fault c.in-Err.ensures.value in
    let inside : (told c.in-Err.fault).1 ≤ length bytes = subst (RecordBy bytes) is (record-by bytes) in
    record { fits = omega (arith, c.requires, c.byte.ensures, inside) }

pub returns-in-Ok : goal.returns-in-Ok
returns-in-Ok c =
    let bytes = c.args.bytes.now in
    let is = became literals (read_record bytes) c.new-record.result c.read.new.self c.in-Ok.ensures.value in
    goes-record c.args.start bytes c.read.new.self c.args.self.now.class c.take.new.self.class c.take.result is c.take.ensures

pub returns-in-Err : goal.returns-in-Err
returns-in-Err c =
    let bytes = c.args.bytes.now in
    let is = stayed literals (read_record bytes) c.new-record.result c.read.new.self c.in-Err.fault c.in-Err.ensures.value in
    goes-fault c.args.start bytes c.in-Err.fault c.args.self.now.class c.question.result c.byte.result is c.question.ensures c.byte.ensures
