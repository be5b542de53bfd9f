-- What is left of the proof that a season is played bag by bag.
use Rattle.std.proofs.Common.{◌≡◌, suc, ◌-◌, false, refl, ◌∙◌, arith}
use Rattle.choices.specs.Stand.{InOrder, stand}
use Rattle.seasons.proofs.Playing.{playing_none, playing_more, course_ordered, course_ready, plays_by, plays_ended}
use Rattle.seasons.proofs.run.play.Goals as goal

pub loop-made-init : goal.loop-made-init
loop-made-init g c = (playing_none, refl)

pub pack-requires-clause-pans : goal.pack-requires-clause-pans
pack-requires-clause-pans g c =
    let law = g.met.K.Kind.lawful in
    course_ordered law c.requires.small (law.old _ _ _ c.requires.numbers) c.requires.pans c.loop-made.invariant.0.course

pub pack-requires-clause-numbers : goal.pack-requires-clause-numbers
pack-requires-clause-numbers g c =
    let law = g.met.K.Kind.lawful in
    let left : c.args.bags - c.loop-made.made ≡ suc (c.args.bags - suc c.loop-made.made) = omega (arith, c.loop-made-test.true) in
    law.one _ _ _ (rw left at (course_ready law c.args.bags c.requires.numbers c.loop-made.invariant.0.course (omega (arith, c.loop-made-test.true))))

pub loop-made-preserved : goal.loop-made-preserved
loop-made-preserved g c =
    let law = g.met.K.Kind.lawful in
    let e = c.refill-next.ensures in
    let o : InOrder (stand c.loop-made.weights c.loop-made.ages) =
    course_ordered law c.requires.small (law.old _ _ _ c.requires.numbers) c.requires.pans c.loop-made.invariant.0.course in (
      rw (c.from-weight.ensures, c.in-Some.ensures.kind) (playing_more law o c.loop-made.invariant.0 c.in-Some.ensures.bag e.value e.within e.after),
      c.in-Some.ensures.rooms ∙ c.loop-made.invariant.1,
    )

pub returns-in-None-clause-played : goal.returns-in-None-clause-played
returns-in-None-clause-played g c =
    let law = g.met.K.Kind.lawful in
    let h = c.in-None.ensures in
    plays_ended law c.args.bags c.requires.small c.requires.pans c.requires.numbers c.loop-made-test.true c.loop-made.invariant.0 h.bag.0 h.kind h.bag.1

pub returns-clause-played : goal.returns-clause-played
returns-clause-played g c =
    let law = g.met.K.Kind.lawful in
    let e : c.loop-made.made ≡ c.args.bags = omega arith in
    rw e at (plays_by law c.args.bags false c.requires.small c.requires.pans c.requires.numbers (omega arith) c.loop-made.invariant.0 e)
