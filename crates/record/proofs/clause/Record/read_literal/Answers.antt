use Rattle.std.proofs.Common.{ℕ, ◌<◌, [], ◌∷◌, ◌++◌, length, sym, refl, ap, ◌∙◌, arith}
use Rattle.bounded.specs.Elems.{elems}
use Rattle.bounded.proofs.Rooms.{pushed_room}
use Rattle.record.specs.Records.{literals}
use Rattle.record.specs.Reads.{read_literal}
use Rattle.clauses.proofs.Beginnings.{length-begins}
use Rattle.record.proofs.Kept.{whole-record, grown-invariant, grown-adds}
use Rattle.record.proofs.clause.Record.read_literal.Goals as goal

pub add_literal-answer-requires : goal.add_literal-answer-requires
add_literal-answer-requires c = let r = c.args.self.now in record { whole = whole-record r; begun = c.as_slice-starts.ensures.value ∙ r.begun; counted = c.requires.counted; marked = c.requires.marked }

pub invariant_of-self : goal.invariant_of-self
invariant_of-self c =
    let r = c.args.self.now in
    let room : length (elems r.starts) < 16 = omega (arith, ap length r.begun, length-begins 0 (literals r), c.requires.room) in
    let pushed = pushed_room 16 c.len-start.result (elems r.starts) c.push.result (elems c.push.new.self) c.push.ensures room ∙ ap (λ (n : ℕ). elems r.starts ++ n ∷ []) c.len-start.ensures.value in
    let k = grown-invariant r c.args.input.now (λ i. (c.type_inv.input i).fits) c.args.at (read_literal (literals r) c.args.input.now c.args.at) refl c.add_literal-answer.result (elems c.add_literal-answer.new.nodes) c.add_literal-answer.ensures.value (sym c.if-is_ok.ensures.value) (elems c.push.new.self) pushed in
    record { whole = k.whole-nodes; clause = k.clause; apart = k.apart; begun = k.begun }

pub returns-then-is_ok : goal.returns-then-is_ok
returns-then-is_ok c =
    let r = c.args.self.now in
    record { value = grown-adds r c.args.input.now (λ i. (c.type_inv.input i).fits) c.args.at (read_literal (literals r) c.args.input.now c.args.at) c.add_literal-answer.result (elems c.add_literal-answer.new.nodes) c.add_literal-answer.ensures.value (sym c.if-is_ok.ensures.value); marked = c.add_literal-answer.ensures.marked }
