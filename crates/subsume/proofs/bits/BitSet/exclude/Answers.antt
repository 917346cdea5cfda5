use Rattle.std.proofs.Common.{◌/◌, ◌%◌, ◌∙◌, get_or, arith}
use Rattle.std.specs.Int.{w64}
use Rattle.std.proofs.lemmas.Nat.Bits.{bit_at_clear_same, bit_at_clear_other}
use Rattle.subsume.proofs.Sets.{set_here, set_others}
use Rattle.subsume.proofs.bits.BitSet.exclude.Goals as goal

pub returns-clause-here : goal.returns-clause-here
returns-clause-here g c =
    let long = c.args.self.now.sized in
    set_here c.args.self.now.words c.args.k _ (omega arith) ∙ bit_at_clear_same w64 (get_or c.args.self.now.words (c.args.k / 64) 0) (c.args.k % 64) (omega arith)

pub returns-clause-others : goal.returns-clause-others
returns-clause-others g c =
    let long = c.args.self.now.sized in
    let w = get_or c.args.self.now.words (c.args.k / 64) 0 in
    set_others c.args.self.now.words c.args.k _ (omega arith) (λ i h n. bit_at_clear_other w64 w (c.args.k % 64) (omega arith) i h n)
