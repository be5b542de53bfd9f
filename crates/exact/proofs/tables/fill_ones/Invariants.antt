-- What the loop over the pans keeps.
use Rattle.exact.proofs.Telling.{Filling}
use Rattle.exact.proofs.tables.fill_ones.Given as goal

abbrev pub invariant-loop-pan : goal.invariant-loop-pan
invariant-loop-pan l = Filling 0 l.free l.pan l.ones
