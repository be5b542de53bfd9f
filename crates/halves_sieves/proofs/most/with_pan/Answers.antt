-- What is left of the proof of one pan more.
use Rattle.std.proofs.Common.{arith}
use Rattle.halves_sieves.proofs.Weighing.{worked_more}
use Rattle.halves_sieves.proofs.most.with_pan.Goals as goal

pub loop-r-preserved : goal.loop-r-preserved
loop-r-preserved c = worked_more c.args.weight _ _ c.loop-r.r _ c.loop-r-test.true (omega arith) c.loop-r.invariant (omega (arith, c.max.ensures, c.from.ensures))
