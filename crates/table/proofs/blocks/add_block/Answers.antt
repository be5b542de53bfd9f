-- What is left of the proof that a block is made with two pans more.
use Rattle.std.proofs.Common.{◌≡◌, ℕ, ◌+◌, ◌-◌, ◌≤◌, min, get_or, ◌∙◌, arith}
use Rattle.table.specs.Rows.{row_at, back}
use Rattle.table.proofs.Joining.{shifted, four_joined}
use Rattle.table.proofs.blocks.add_block.Goals as goal

pub returns : goal.returns
returns c =
    record {
      same = λ j h. c.put.ensures.same j (omega arith);
      made = λ x h.
          let bytes = c.args.room.now in
          let row = c.args.row in
          let from = c.args.from in
          let u = c.args.first in
          let v = c.args.second in
          let most = c.args.most in
          let to : c.args.next + (from + x) ≡ c.args.next + from + x = omega arith in
          let here : row + from + x ≡ row + (from + x) = omega arith in
          let at : (w : ℕ) → row + from - min w most + x ≡ row + (from + x) - min w most = λ w. omega (arith, c.requires.room.0, c.requires.most.0) in
          let back' : (w far : ℕ) → far ≡ min w most → w ≤ u + v → get_or bytes (row + from - far + x) 0 ≡ back (row_at bytes row) w (from + x)
          = λ w far is less. rw (is, at w) (shifted bytes row 64 w (from + x) most c.requires.room.0 c.requires.blank (λ more. omega (arith, c.requires.most.1 (omega arith))) (omega (arith, c.requires.most.0))) in
          rw to
          (c.put.ensures.made x h
          ∙ c.join-made.ensures x h
          ∙ rw (here, back' v _ c.min.ensures (omega arith), back' u _ c.min-2.ensures (omega arith), back' (u + v) _ c.min-3.ensures (omega arith))
          (four_joined (row_at bytes row) u v (from + x)));
    }
