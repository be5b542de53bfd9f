-- What the search keeps from step to step.
use Rattle.std.proofs.Common.{◌+◌, ◌≤◌}
use Rattle.search.specs.Sought.{Sought}
use Rattle.search.proofs.scan.advance.Given as goal

abbrev pub invariant-loop : goal.invariant-loop
invariant-loop g l =
    (l.initial.at.next + l.counter ≤ l.at.next)
    × (l.at.next ≤ g.C.Criterion.count l.criterion)
    × Sought (g.C.Criterion.allows l.criterion) (g.C.Criterion.beats l.criterion) l.at.next l.at.best
