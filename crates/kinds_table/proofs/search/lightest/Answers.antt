-- What is left of the proof that the first weight is found.
use Rattle.std.proofs.Common.{◌≡◌, ◌+◌, ◌-◌, ◌≤◌, ◌⊎◌, get_or, inl, inr, arith}
use Rattle.std.proofs.lemmas.Bool.{cases_eq}
use Rattle.kinds_table.specs.Rows.{cost_in}
use Rattle.kinds_table.proofs.search.lightest.Goals as goal

pub loop-over-preserved : goal.loop-over-preserved
loop-over-preserved c x v some low in' = at (cases_eq x c.loop-over.over)
  where
    at : (x ≡ c.loop-over.over) ⊎ (x ≡ c.loop-over.over → ⊥) → c.args.limit ≤ cost_in c.args.row.now v + get_or c.args.joined.now (x - v) 0
    at (inl e) = rw e (omega (arith, c.least_sum-cost.ensures.low v (omega arith), c.if-cost-limit.false))
    at (inr ne) = c.loop-over.invariant x v some (omega arith) in'

pub returns : goal.returns
returns c = λ x v some low in'. c.loop-over.invariant x v some (omega (arith, c.loop-over-test.false)) in'
