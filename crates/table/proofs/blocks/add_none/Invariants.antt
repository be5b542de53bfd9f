-- What the loop over the blocks keeps: those before are written.
use Rattle.table.specs.Rows.{Added}
use Rattle.table.proofs.blocks.add_none.Given as goal

abbrev pub invariant-loop-block : goal.invariant-loop-block
invariant-loop-block l = Added 0 0 l.row l.next l.low l.block l.initial.room l.room
