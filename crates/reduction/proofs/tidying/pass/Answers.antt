use Rattle.std.proofs.Common.{◌≡◌, ℕ, length, subst, arith}
use Rattle.std.proofs.lemmas.List.{length-map}
use Rattle.clauses.specs.Clauses.{literals_at}
use Rattle.term.specs.Coding.{word_at}
use Rattle.reduction.specs.Progress.{Progress}
use Rattle.reduction.specs.Tidyings.{kept}
use Rattle.reduction.proofs.tidying.pass.Goals as goal

pub returns-clause-passed : goal.returns-clause-passed
returns-clause-passed g c =
    let a = c.args.table.now.targets in
    let C = literals_at a.nodes.now a.starts.now in
    let d = c.loop-i.decided in
    let p = c.loop-i.invariant.standing.progress in
    let all : c.loop-i.i ≡ length C = omega (arith, p.within, length-map a.starts.now (word_at a.nodes.now), c.len-i-end.ensures) in
    subst (λ (n : ℕ). Progress C n (kept a.nodes.now d) d.held.words d.gone.words) all p
