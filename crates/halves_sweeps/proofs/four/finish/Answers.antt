-- What is left of the proof that the sweep ends with the least.
use Rattle.std.proofs.Common.{◌+◌}
use Rattle.halves_sweeps.proofs.Striding.{strode_more}
use Rattle.halves_sweeps.proofs.four.finish.Goals as goal

pub loop-run-preserved : goal.loop-run-preserved
loop-run-preserved c = let h = c.loop-run.invariant in (h.0 + 1, strode_more _ _ _ _ _ _ _ h.1 c.step-run.ensures)
