-- What the sweeps so far have found: the least of the pairs with fewer pans in the back list.
use Rattle.std.proofs.Common.{◌<◌}
use Rattle.halves_places.specs.Place.{pans_in}
use Rattle.halves_sweeps.specs.Sweep.{Few, LeastSum}
use Rattle.halves_sweeps.proofs.counted.counted.Given as goal

abbrev pub invariant-loop-k : goal.invariant-loop-k
invariant-loop-k l = LeastSum (λ a b. (pans_in a < l.k) × Few l.limit a b) l.lists.front.now l.lists.back.now l.from l.to l.found
