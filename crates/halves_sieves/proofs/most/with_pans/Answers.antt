-- What is left of the proof of some pans more.
use Rattle.std.proofs.Common.{arith}
use Rattle.halves_sieves.proofs.Weighing.{weighing_more, weighing_low}
use Rattle.halves_sieves.proofs.most.with_pans.Goals as goal

pub with_pan-requires : goal.with_pan-requires
with_pan-requires c = λ r. omega (arith, weighing_low _ _ _ _ _ c.loop-weight.invariant.2 c.requires.low r, c.requires.few)

pub loop-weight-preserved : goal.loop-weight-preserved
loop-weight-preserved c =
    let g = c.with_pan.ensures in
    (tt, tt, weighing_more _ _ _ _ _ _ (rw c.in-Some.ensures.steps at c.loop-weight.invariant.2) c.requires.light c.with_pan.array_long g.none g.more)

pub returns-clause-low : goal.returns-clause-low
returns-clause-low c = λ b low. weighing_low _ _ _ _ b c.loop-weight.invariant.2 low
