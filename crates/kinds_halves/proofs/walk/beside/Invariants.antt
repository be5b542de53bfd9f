-- What the walk keeps from turn to turn.
use Rattle.kinds_halves.specs.Passing.{passes}
use Rattle.kinds_halves.proofs.Walking.{Stair}
use Rattle.kinds_halves.proofs.walk.beside.Given as goal

abbrev pub invariant-loop-left : goal.invariant-loop-left
invariant-loop-left l = Stair (passes l.sums.mixed) l.top l.sides.lists.front.now l.sides.lists.back.now l.from l.to l.left l.at l.found

abbrev pub decreases-loop-left : goal.decreases-loop-left
decreases-loop-left l = l.left
