-- What the loop over the kinds keeps: the kinds so far are joined, and nothing stands behind.
use Rattle.kinds_table.specs.Plans.{Laid}
use Rattle.kinds_table.proofs.Together.{Together}
use Rattle.kinds_table.proofs.joins.join_all.Given as goal

abbrev pub invariant-loop-kind : goal.invariant-loop-kind
invariant-loop-kind l = (h : Laid l.plan) → Together l.plan h l.rows l.kind l.sums
