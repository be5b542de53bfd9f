-- What is left of the proof that the sums of a pan and those behind it are marked.
use Rattle.exact.proofs.Telling.{marked_sum}
use Rattle.std.proofs.Common.{arith}
use Rattle.exact.proofs.tables.mark.Goals as goal

pub loop-w-preserved : goal.loop-w-preserved
loop-w-preserved c = rw c.min.ensures (marked_sum c.args.behind.now (omega arith) (omega arith) (omega arith) c.loop-w.invariant)
