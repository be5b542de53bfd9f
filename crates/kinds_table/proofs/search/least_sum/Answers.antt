-- What is left of the proof of the least sum.
use Rattle.std.proofs.Common.{ℕ, get_or, arith}
use Rattle.kinds_table.specs.Rows.{cost_in}
use Rattle.kinds_table.proofs.Sums.{more_so_far, cost_at}
use Rattle.kinds_table.proofs.search.least_sum.Goals as goal

pub loop-v-preserved : goal.loop-v-preserved
loop-v-preserved c =
    more_so_far c.loop-v.v (cost_in c.args.row.now) (λ (u : ℕ). get_or c.args.joined.now u 0) c.args.x c.loop-v.least c.min-least.result c.loop-v.invariant (omega (arith, c.loop-v-test.true, c.min-v-end.ensures))
    (omega (arith, c.min-least.ensures, cost_at c.args.row.now c.loop-v.v (omega (arith, c.loop-v-test.true, c.min-v-end.ensures))))
