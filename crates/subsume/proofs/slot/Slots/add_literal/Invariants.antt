use Rattle.std.proofs.Common.{◌≡◌, ℕ, ◌+◌, ◌<◌, length, get_or}
use Rattle.bounded.specs.Elems.{elems}
use Rattle.subsume.specs.Fronts.{Leads}
use Rattle.subsume.specs.Solving.{Linked, Fronted, OpenAt}
use Rattle.subsume.proofs.slot.Slots.add_literal.Given as goal

abbrev pub invariant-loop-p : goal.invariant-loop-p
invariant-loop-p g l =
    let a = l.literals in
    let t = l.targets.view in
    let start = get_or a.starts.now l.i 0 in
    record {
      fronted : Fronted a.nodes.now a.starts.now t.nodes.now t.starts.now (elems l.self.fronts);
      linked : Linked a.nodes.now a.starts.now t.nodes.now t.starts.now (elems l.self.fronts) (elems l.self.rows);
      inside : l.r < length (elems l.self.fronts);
      leads : (k : ℕ) × (start + k ≡ l.p) × Leads (elems l.self.fronts) a.nodes.now start k l.r;
      wide : OpenAt a.nodes.now a.starts.now t.nodes.now t.starts.now l.i l.left.words;
    }
