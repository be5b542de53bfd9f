-- What is left of the proof that the least of the tops' is the least within the limit.
use Rattle.std.proofs.Common.{arith}
use Rattle.halves_sweeps.specs.Sweep.{Together}
use Rattle.halves_sweeps.proofs.Sweeping.{least_top}
use Rattle.halves_sweeps.proofs.counted.fewest.Goals as goal

pub loop-top-preserved : goal.loop-top-preserved
loop-top-preserved c =
    rw c.min-found.ensures
    (least_top (Together c.args.limit) c.loop-top.top-index c.args.tops.now _ _ _ _ _ c.loop-top.found _ c.loop-top.invariant (omega arith) (rw (c.saturating_sub.ensures, c.saturating_sub-in-loop-top.ensures) at c.beside-more.ensures))
