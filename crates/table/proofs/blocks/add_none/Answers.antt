-- What is left of the proof that blocks are made with two pans that weigh nothing.
use Rattle.std.proofs.Common.{◌≡◌, ℕ, ◌+◌, ◌*◌, ◌∙◌, refl, arith}
use Rattle.table.specs.Rows.{row_at}
use Rattle.table.proofs.Adding.{added_more}
use Rattle.table.proofs.Joining.{joined_nothing, second_nothing}
use Rattle.table.proofs.blocks.add_none.Goals as goal

pub loop-block-preserved : goal.loop-block-preserved
loop-block-preserved c =
    added_more (omega (arith, c.loop-block.auto.block)) (omega (arith, c.requires.room.1, c.loop-block-test.true)) c.loop-block.invariant
    (λ j h. c.put.ensures.same j (omega (arith, h)))
    (λ x h.
    let bytes = c.loop-block.room in
    let row = c.args.row in
    let from : ℕ = 64 * c.loop-block.block in
    let to : c.args.next + (from + x) ≡ c.args.next + from + x = omega arith in
    let here : row + from + x ≡ row + (from + x) = omega arith in
    rw (to, second_nothing (row_at bytes row) 0 (from + x), joined_nothing (row_at bytes row) (from + x))
    (c.put.ensures.made x h ∙ c.join_none-made.ensures x h ∙ rw here refl))
