use Rattle.std.proofs.Common.{refl, rules}
use Rattle.subsume.specs.Fronts.{stands}
use Rattle.subsume.proofs.Walking.{reached-inside, reached-on, reached-last}
use Rattle.subsume.proofs.meeting.finish.Goals as goal

pub next-last-requires : goal.next-last-requires
next-last-requires g c =
    let u = c.args.literal in
    let t = c.args.targets.now.view in (
      search rules,
      (
        search rules,
        (
          c.requires.few,
          λ j q h e.
              reached-inside u t j h c.loop-p.p c.end-p-end.result c.end-p-end.ensures c.loop-p-test.true (stands c.loop-p.last j) (c.loop-p.invariant j h) q e,
        ),
      ),
    )

pub loop-p-preserved : goal.loop-p-preserved
loop-p-preserved g c j h =
    reached-on c.args.literal c.args.targets.now.view j h c.loop-p.p c.end-p-end.result c.end-p-end.ensures c.loop-p-test.true _ refl
    (stands c.loop-p.last j) (stands c.next-last.result j) (c.loop-p.invariant j h) (c.next-last.ensures.beyond.advanced j h)

pub returns : goal.returns
returns g c j h θ t = reached-last c.args.literal c.args.targets.now.view j h c.loop-p.p (stands c.loop-p.last j) (c.loop-p.invariant j h) θ t
