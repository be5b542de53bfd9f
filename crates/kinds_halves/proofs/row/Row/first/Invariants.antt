-- None of the entries so far passes.
use Rattle.kinds_halves.specs.Passing.{passes}
use Rattle.kinds_halves.proofs.Walking.{Passed}
use Rattle.kinds_halves.proofs.row.Row.first.Given as goal

abbrev pub invariant-loop-q : goal.invariant-loop-q
invariant-loop-q l = Passed (passes l.sums.mixed) l.self.top l.self.front l.self.back.now l.at l.q
