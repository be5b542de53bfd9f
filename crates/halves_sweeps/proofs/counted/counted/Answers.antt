-- What is left of the proof that the sweeps together find the least.
use Rattle.std.proofs.Common.{arith}
use Rattle.halves_sweeps.proofs.Sweeping.{counted_more}
use Rattle.halves_sweeps.proofs.counted.counted.Goals as goal

pub loop-k-preserved : goal.loop-k-preserved
loop-k-preserved c = counted_more c.args.limit c.loop-k.k _ _ _ _ _ _ (omega arith) c.loop-k.invariant c.sweep-found.ensures
