-- What the loop over the row keeps: the least sum with the costs so far.
use Rattle.std.proofs.Common.{ℕ, get_or}
use Rattle.kinds_table.specs.Rows.{cost_in}
use Rattle.kinds_table.proofs.Sums.{SumSoFar}
use Rattle.kinds_table.proofs.search.least_sum.Given as goal

abbrev pub invariant-loop-v : goal.invariant-loop-v
invariant-loop-v l = SumSoFar l.v (cost_in l.row) (λ (u : ℕ). get_or l.joined u 0) l.x l.least
