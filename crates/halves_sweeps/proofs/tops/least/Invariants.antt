-- The sums below the weight that is tried open too many pans.
use Rattle.halves_sweeps.proofs.Sweeping.{Passed}
use Rattle.halves_sweeps.proofs.tops.least.Given as goal

abbrev pub invariant-loop : goal.invariant-loop
invariant-loop l = Passed l.limit l.tops l.lists.front.now l.lists.back.now l.from l.at
