-- What is left of the proof of so many steps.
use Rattle.halves_sweeps.proofs.Striding.{turning_more}
use Rattle.halves_sweeps.proofs.four.stride.Goals as goal

pub loop-lane-preserved : goal.loop-lane-preserved
loop-lane-preserved c = turning_more _ _ _ _ _ _ _ _ c.loop-lane-test.true c.loop-lane.invariant c.step.ensures
