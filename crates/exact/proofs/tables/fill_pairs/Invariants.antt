-- What the loop over the first pans of pairs keeps.
use Rattle.exact.proofs.Telling.{Filling}
use Rattle.exact.proofs.tables.fill_pairs.Given as goal

abbrev pub invariant-loop-pan : goal.invariant-loop-pan
invariant-loop-pan l = Filling 1 l.free l.pan l.pairs
