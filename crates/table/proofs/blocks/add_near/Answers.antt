-- What is left of the proof that blocks are made with two pans more.
use Rattle.std.proofs.Common.{arith}
use Rattle.table.proofs.Adding.{added_more}
use Rattle.table.proofs.blocks.add_near.Goals as goal

pub loop-block-preserved : goal.loop-block-preserved
loop-block-preserved c =
    added_more (omega (arith, c.loop-block.auto.block)) (omega (arith, c.requires.room.1, c.loop-block-test.true)) c.loop-block.invariant
    c.add_block.ensures.same c.add_block.ensures.made
