-- What the tops so far have found.
use Rattle.std.proofs.Common.{length}
use Rattle.halves_sweeps.specs.Sweep.{LeastOf, Whatever}
use Rattle.halves_sweeps.proofs.tops.first.Given as goal

abbrev pub invariant-loop-top : goal.invariant-loop-top
invariant-loop-top l = LeastOf Whatever (length l.yielded) l.tops l.lists.front.now l.lists.back.now l.from l.to l.least
