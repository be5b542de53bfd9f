-- What the tops so far have found.
use Rattle.halves_sweeps.specs.Sweep.{LeastOf, Together}
use Rattle.halves_sweeps.proofs.counted.fewest.Given as goal

abbrev pub invariant-loop-top : goal.invariant-loop-top
invariant-loop-top l = LeastOf (Together l.limit) l.top-index l.tops l.lists.front.now l.lists.back.now l.from l.to l.found
