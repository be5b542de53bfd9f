-- What is left of the proof that blocks are made with one pan more.
use Rattle.std.proofs.Common.{◌≡◌, ℕ, ◌+◌, ◌-◌, ◌*◌, ◌<◌, min, get_or, refl, ◌∙◌, arith}
use Rattle.table.specs.Rows.{back, row_at}
use Rattle.table.proofs.Adding.{added_more}
use Rattle.table.proofs.Joining.{second_nothing, shifted}
use Rattle.table.proofs.blocks.add_one.Goals as goal

pub loop-block-preserved : goal.loop-block-preserved
loop-block-preserved c =
    added_more (omega (arith, c.loop-block.auto.block)) (omega (arith, c.requires.room.1, c.loop-block-test.true)) c.loop-block.invariant
    (λ j h. c.put.ensures.same j (omega (arith, h)))
    (λ x h.
    let bytes = c.loop-block.room in
    let row = c.args.row in
    let from : ℕ = 64 * c.loop-block.block in
    let w = c.args.weight in
    let most : ℕ = from + 64 in
    let to : c.args.next + (from + x) ≡ c.args.next + from + x = omega arith in
    let here : row + from + x ≡ row + (from + x) = omega arith in
    let at : row + from - min w most + x ≡ row + (from + x) - min w most = omega (arith, c.requires.room.0) in
    let blank : (j : ℕ) → j < 64 → get_or bytes (row - 64 + j) 0 ≡ 255
    = λ j less. c.loop-block.invariant.same _ (omega (arith, less, c.requires.room.0, c.requires.room.1)) ∙ c.requires.blank j less in
    let back' : get_or bytes (row + from - c.min.result + x) 0 ≡ back (row_at bytes row) w (from + x)
    = rw (c.min.ensures, at) (shifted bytes row 64 w (from + x) most c.requires.room.0 blank (λ more. omega (arith, h)) (omega arith)) in
    rw (to, second_nothing (row_at bytes row) w (from + x))
    (c.put.ensures.made x h
    ∙ c.join_one-made.ensures x h
    ∙ rw (here, back') refl))
