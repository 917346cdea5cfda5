use Rattle.std.proofs.Common.{ℕ, List, ◌++◌, string_bytes, refl, ap, ◌∙◌}
use Rattle.std.proofs.lemmas.Slice.{pushed}
use Rattle.word.specs.declared.fault.Layer.TheVariants as layer
use Rattle.listing.specs.FaultLines.{layer_names}
use Rattle.word.specs.Faults.{layer_name}
use Rattle.listing.proofs.Separated.{one_more, none_left}
use Rattle.listing.proofs.faults.push_layers.Goals as goal

pub loop-k-preserved : goal.loop-k-preserved
loop-k-preserved c =
    let old = string_bytes c.loop-k.text in
    let first = pushed c.divider.result.now refl c.in_ok-push_str.was c.push_str.ensures.bytes ∙ ap (λ (t : List ℕ). old ++ t) c.divider.ensures in
    one_more layer_name c.args.layers.now (string_bytes c.args.text.now ++ layer_names c.args.layers.now) c.loop-k.k layer.Number old (string_bytes c.push_str.new.self) (string_bytes c.write.new.self) c.loop-k-test.true c.loop-k.invariant first c.in_ok-write.ensures.bytes

pub returns : goal.returns
returns c = none_left layer_name c.args.layers.now (string_bytes c.args.text.now ++ layer_names c.args.layers.now) c.loop-k.k (string_bytes c.loop-k.text) c.loop-k-test.false c.loop-k.invariant
