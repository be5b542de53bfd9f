-- What the sums so far and the pans to come make up.
use Rattle.kinds_halves.proofs.ByKind.{Summed}
use Rattle.kinds_halves.proofs.sums.by_kind.Given as goal

abbrev pub invariant-loop-pan : goal.invariant-loop-pan
invariant-loop-pan l = Summed l.mixed.kinds.now l.mixed.ring.weights.now l.choice l.pan l.sums
