-- What is left of the proof that the four go on until one of them is at its end.
use Rattle.std.proofs.Common.{◌+◌}
use Rattle.halves_sweeps.proofs.Striding.{strides_more}
use Rattle.halves_sweeps.proofs.four.side_by_side.Goals as goal

pub loop-steps-preserved : goal.loop-steps-preserved
loop-steps-preserved c =
    let h = c.loop-steps.invariant.0 in
    ((h.0 + c.loop-steps.steps, strides_more _ _ _ _ _ _ _ h.1 c.stride-run.ensures), c.all_free-steps-in-loop-steps.ensures)
