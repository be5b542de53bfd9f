-- What the loop over the pans, by twos from the last to the first, keeps.
use Rattle.std.proofs.Common.{◌-◌, ◌*◌}
use Rattle.table.proofs.Filling.{Filling}
use Rattle.table.proofs.rows.fill.Given as goal

abbrev pub invariant-loop-pair : goal.invariant-loop-pair
invariant-loop-pair l =
    Filling l.ring.rule.age l.ring.weights.now l.ring.ages.now l.from (64 * l.shape.blocks - 1) l.shape.pad l.wide l.pair l.row l.before l.room
