-- What the tops so far have found.
use Rattle.kinds_halves.specs.Passing.{passes}
use Rattle.kinds_halves.specs.Walk.{LeastPassing}
use Rattle.kinds_halves.proofs.walk.least.Given as goal

abbrev pub invariant-loop-top : goal.invariant-loop-top
invariant-loop-top l = LeastPassing (passes l.sums.mixed) l.top-index l.tops l.sides.lists.front.now l.sides.lists.back.now l.from l.to l.found
