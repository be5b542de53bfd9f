-- What is left of the proof that blocks of 255 are written.
use Rattle.std.proofs.Common.{◌≡◌, ℕ, ◌+◌, ◌-◌, ◌*◌, ◌<◌, ◌≤◌, ◌⊎◌, get_or, ◌∙◌, inl, inr, arith}
use Rattle.std.proofs.lemmas.Bool.{cases_lt}
use Rattle.table.proofs.blocks.blank.Goals as goal

pub loop-block-preserved : goal.loop-block-preserved
loop-block-preserved c = (λ j h. c.put.ensures.same j (omega arith) ∙ c.loop-block.invariant.0 j h, λ j h. at j h (cases_lt j (64 * c.loop-block.block)))
  where
    at : (j : ℕ) → j < 64 * (c.loop-block.block + 1) → (j < 64 * c.loop-block.block) ⊎ (64 * c.loop-block.block ≤ j) → get_or c.put.new.room (c.args.from + j) 0 ≡ 255
    at j h (inl older) = c.put.ensures.same _ (omega arith) ∙ c.loop-block.invariant.1 j older
    at j h (inr newer) =
        let x : ℕ = j - 64 * c.loop-block.block in
        let e : c.args.from + j ≡ c.args.from + 64 * c.loop-block.block + x = omega arith in
        rw e (c.put.ensures.made x (omega arith) ∙ c.requires.never x (omega arith))
