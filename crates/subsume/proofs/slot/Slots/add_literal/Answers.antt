use Rattle.std.proofs.Common.{◌≡◌, suc, ◌<◌, length, get_or, min, refl, sym, ap, ap₂, ◌∙◌, subst, arith, rules}
use Rattle.bounded.specs.Elems.{elems}
use Rattle.term.specs.Coding.{word_at}
use Rattle.term.specs.Words.{sub}
use Rattle.term.specs.declared.node.Node.TheVariants.{Variable}
use Rattle.subsume.specs.Choices.{no_front}
use Rattle.subsume.specs.Fronts.{stands, Leads}
use Rattle.subsume.proofs.Fronts.{front-inside, fronted-grown, linked-grown, inside-grown, leads-grown, leads-on, has-nodes, reached-by}
use Rattle.subsume.proofs.Pruning.{item}
use Rattle.subsume.proofs.Standings.{is_set}
use Rattle.subsume.proofs.Walking.{reached-last}
use Rattle.subsume.proofs.slot.Slots.add_literal.Goals as goal
use Rattle.subsume.proofs.slot.Slots.add_literal.Goals.{in-Variable, in_default-node}

pub loop-p-init : goal.loop-p-init
loop-p-init g c =
    let some = c.requires.fronted.some in
    record {
      fronted = rw c.open.ensures.1 c.requires.fronted;
      linked = rw (c.open.ensures.0, c.open.ensures.1) c.requires.linked;
      inside = rw c.open.ensures.1 some;
      leads = (0, omega (arith, c.literal-literal.ensures.start), refl);
      wide = λ j h θ t. c.full-left.ensures j (omega (arith, c.requires.few.1, c.requires.few.2, h));
    }

pub front_after-requires : goal.front_after-requires
front_after-requires g c =
    let a = c.args.literals in
    let t = c.args.targets.now.view in
    let u = c.literal-literal.result in
    let is = c.literal-literal.ensures in
    let i = c.args.i in
    let fronts = elems c.loop-p.self.fronts in
    let v = c.loop-p.invariant in
    let k = v.leads.0 in
    let at = v.leads.1 in
    let nodes = has-nodes a t u i is.nodes is.start c.end-p-end.result (suc k) c.end-p-end.ensures (omega (arith, at, c.loop-p-test.true)) in
    let before = has-nodes a t u i is.nodes is.start c.end-p-end.result k c.end-p-end.ensures (omega (arith, at, c.loop-p-test.true)) in
    (search rules, (search rules, (v.inside, ((c.requires.few.1, c.requires.few.2), front-inside a t fronts c.loop-p.r i k v.fronted v.inside (c.requires.literal, before, v.leads.2) nodes))))

pub finish-requires : goal.finish-requires
finish-requires g c =
    let a = c.args.literals in
    let t = c.args.targets.now.view in
    let u = c.literal-literal.result in
    let is = c.literal-literal.ensures in
    let i = c.args.i in
    let fronts = elems c.loop-p.self.fronts in
    let v = c.loop-p.invariant in
    let k = v.leads.0 in
    let at = v.leads.1 in
    let before = has-nodes a t u i is.nodes is.start c.end-p-end.result k c.end-p-end.ensures (omega (arith, at, c.loop-p-test.true)) in
    let grown = c.front_after.ensures.grown in
    let after = elems c.front_after.new.self.fronts in
    let all = c.as_slice.ensures.value in
    let inside : c.loop-p.r < length after = inside-grown a t c.loop-p.r _ fronts after v.inside grown in
    let here = item c.as_slice.result.now after c.loop-p.r c.index-as_slice-r.result (no_front g.row.N) all (omega (arith, inside, ap length all)) c.index-as_slice-r.is in (
      search rules,
      (
        search rules,
        (
          (c.requires.few.1, c.requires.few.2),
          reached-by a t u i is.nodes is.start after c.loop-p.r k c.loop-p.p c.index-as_slice-r.result
              (fronted-grown a t c.loop-p.r _ fronts after v.inside grown v.fronted) inside (leads-grown a t c.loop-p.r _ fronts after v.inside grown i k (c.requires.literal, before, v.leads.2)) at here,
        ),
      ),
    )

pub returns-in_default-clause-fronted : goal.returns-in_default-clause-fronted
returns-in_default-clause-fronted g c = fronted-grown c.args.literals c.args.targets.now.view c.loop-p.r _ (elems c.loop-p.self.fronts) _ c.loop-p.invariant.inside c.front_after.ensures.grown c.loop-p.invariant.fronted

pub returns-in_default-clause-linked : goal.returns-in_default-clause-linked
returns-in_default-clause-linked g c =
    rw c.front_after.ensures.same
    (linked-grown c.args.literals c.args.targets.now.view c.loop-p.r _ (elems c.loop-p.self.fronts) _ c.loop-p.invariant.inside c.front_after.ensures.grown (elems c.loop-p.self.rows) c.loop-p.invariant.linked)

pub returns-in_default-clause-left : goal.returns-in_default-clause-left
returns-in_default-clause-left g c j h θ y =
    let same = ap₂ word_at c.literal-literal.ensures.nodes c.literal-literal.ensures.start in
    let q = c.finish.ensures j h θ (ap (sub θ) same ∙ y) in
    c.meet.ensures j ∙ ap₂ min (c.loop-p.invariant.wide j h θ y) (is_set _ _ q.0 q.1)

pub add_variable-requires : goal.add_variable-requires
add_variable-requires g c =
    let a = c.args.literals in
    let t = c.args.targets.now.view in
    let u = c.literal-literal.result in
    let is = c.literal-literal.ensures in
    let i = c.args.i in
    let fronts = elems c.loop-p.self.fronts in
    let v = c.loop-p.invariant in
    let k = v.leads.0 in
    let at = v.leads.1 in
    let nodes = has-nodes a t u i is.nodes is.start c.end-p-end.result (suc k) c.end-p-end.ensures (omega (arith, at, c.loop-p-test.true)) in
    let grown = c.front_after.ensures.grown in
    let after = elems c.front_after.new.self.fronts in
    let follows = c.in-Some.ensures.follows in
    let is-node = ap₂ (λ n p. get_or n p (Variable 0)) is.nodes (sym at) in
    let leads = leads-on a t c.loop-p.r _ fronts after v.inside grown i k c.in-Some.s v.leads.2 is-node follows in (
      search rules,
      (
        search rules,
        (
          c.requires.literal,
          (
            follows.1,
            (
              c.requires.few,
              (
                (fronted-grown a t c.loop-p.r _ fronts after v.inside grown v.fronted).named c.in-Some.s i k c.in-Variable.x (c.requires.literal, nodes, leads) (sym is-node ∙ c.in-Variable.is),
                rw c.front_after.ensures.same (linked-grown a t c.loop-p.r _ fronts after v.inside grown (elems c.loop-p.self.rows) v.linked),
              ),
            ),
          ),
        ),
      ),
    )

pub loop-p-preserved : goal.loop-p-preserved
loop-p-preserved g c =
    let a = c.args.literals in
    let t = c.args.targets.now.view in
    let u = c.literal-literal.result in
    let is = c.literal-literal.ensures in
    let i = c.args.i in
    let fronts = elems c.loop-p.self.fronts in
    let v = c.loop-p.invariant in
    let k = v.leads.0 in
    let at = v.leads.1 in
    let grown = c.front_after.ensures.grown in
    let after = elems c.front_after.new.self.fronts in
    let follows = c.in-Some.ensures.follows in
    let is-node = ap₂ (λ n p. get_or n p (Variable 0)) is.nodes (sym at) in
    let same : c.match-node.self.fronts ≡ c.front_after.new.self.fronts =
    elim c.match-node.branch [ in-Variable w ↦ ap (λ z. z.fronts) w.self-is ∙ w.add_variable.ensures.same | in_default-node w ↦ ap (λ z. z.fronts) w.self-is ] in
    record {
      fronted = rw same (fronted-grown a t c.loop-p.r _ fronts after v.inside grown v.fronted);
      linked = elim c.match-node.branch [
        | in-Variable w ↦ rw w.self-is w.add_variable.ensures.linked
        | in_default-node w ↦ rw (w.self-is, c.front_after.ensures.same) (linked-grown a t c.loop-p.r _ fronts after v.inside grown (elems c.loop-p.self.rows) v.linked)
      ];
      inside = rw same follows.1;
      leads = (suc k, omega (arith, at), subst (λ z. Leads (elems z) a.nodes.now (get_or a.starts.now i 0) (suc k) c.in-Some.s) (sym same) (leads-on a t c.loop-p.r _ fronts after v.inside grown i k c.in-Some.s v.leads.2 is-node follows));
      wide = elim c.match-node.branch [
        | in-Variable w ↦ rw w.left-is (w.add_variable.ensures.left v.wide)
        | in_default-node w ↦ rw w.left-is v.wide
      ];
    }

pub returns-clause-left : goal.returns-clause-left
returns-clause-left g c j h θ y =
    let a = c.args.literals in
    let t = c.args.targets.now.view in
    let u = c.literal-literal.result in
    let is = c.literal-literal.ensures in
    let i = c.args.i in
    let fronts = elems c.loop-p.self.fronts in
    let v = c.loop-p.invariant in
    let k = v.leads.0 in
    let at = v.leads.1 in
    let nodes = has-nodes a t u i is.nodes is.start c.end-p-end.result k c.end-p-end.ensures (omega (arith, at, c.loop-p-test.false)) in
    let all = c.as_slice-2.ensures.value in
    let here = item c.as_slice-2.result.now fronts c.loop-p.r c.index-as_slice-r-2.result (no_front g.row.N) all (omega (arith, v.inside, ap length all)) c.index-as_slice-r-2.is in
    let same = ap₂ word_at is.nodes is.start in
    let reached = reached-by a t u i is.nodes is.start fronts c.loop-p.r k c.loop-p.p c.index-as_slice-r-2.result v.fronted v.inside (c.requires.literal, nodes, v.leads.2) at here j h in
    let q = reached-last u t j h c.loop-p.p (stands c.index-as_slice-r-2.result j) reached θ (ap (sub θ) same ∙ y) in
    c.meet-2.ensures j ∙ ap₂ min (v.wide j h θ y) (is_set _ _ q.0 q.1)
