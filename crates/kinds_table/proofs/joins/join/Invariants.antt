-- What the loop over the row keeps: the least sums with the costs so far.
use Rattle.kinds_table.proofs.Laying.{Laying}
use Rattle.kinds_table.proofs.joins.join.Given as goal

abbrev pub invariant-loop-v : goal.invariant-loop-v
invariant-loop-v l = Laying l.row l.initial.sums l.from l.at l.span l.v l.sums
