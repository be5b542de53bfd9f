-- What is left of the proof that the tops together have the least.
use Rattle.kinds_halves.proofs.Walking.{least_top}
use Rattle.kinds_halves.proofs.walk.least.Goals as goal

pub loop-top-preserved : goal.loop-top-preserved
loop-top-preserved c = least_top _ c.loop-top.top-index c.args.tops.now _ _ _ _ c.loop-top.found _ c.loop-top.invariant c.beside-found.ensures
