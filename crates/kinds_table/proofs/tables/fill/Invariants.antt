-- What the loop over the pans, from the last to the first, keeps.
use Rattle.kinds_table.specs.Costs.{from}
use Rattle.kinds_table.specs.Plans.{lot_of}
use Rattle.kinds_table.specs.Rows.{Tables}
use Rattle.kinds_table.proofs.tables.fill.Given as goal

abbrev pub invariant-loop-pan : goal.invariant-loop-pan
invariant-loop-pan l =
    Tables (from (lot_of l.mixed.ring.rule l.mixed.kinds.now l.mixed.ring.weights.now l.mixed.ring.ages.now) l.pan) l.plan.most l.plan.kinds l.plan.wide l.rows
