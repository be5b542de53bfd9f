-- What is left of the proof that a row is joined.
use Rattle.std.proofs.Common.{arith}
use Rattle.kinds_table.proofs.Laying.{laying_none, laying_more}
use Rattle.kinds_table.proofs.joins.join.Goals as goal
use Rattle.kinds_table.proofs.joins.join.Goals.{then-gain-lt-NEVER, else-gain-lt-NEVER}

pub loop-v-preserved : goal.loop-v-preserved
loop-v-preserved c =
    elim c.if-gain-lt-NEVER.branch [
      | then-gain-lt-NEVER w ↦ rw w.sums-is (laying_more (omega (arith, c.loop-v-test.true, c.min-v-end.ensures)) (omega (arith, c.loop-v-test.true, c.min-v-end.ensures)) c.requires.room.0 c.requires.capped c.loop-v.invariant w.lay.ensures.same w.lay.ensures.made)
      | else-gain-lt-NEVER w ↦ rw w.sums-is (laying_none (omega (arith, c.loop-v-test.true, c.min-v-end.ensures)) w.if-gain-lt-NEVER.false c.loop-v.invariant)
    ]
