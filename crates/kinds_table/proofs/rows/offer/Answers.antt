-- What is left of the proof that a row takes in a pan that may be opened or stay shut.
use Rattle.std.proofs.Common.{◌≡◌, ℕ, ◌+◌, ◌-◌, ◌*◌, ◌<◌, ◌≤◌, min, get_or, ◌⊎◌, inl, inr, refl, ap₂, ◌∙◌, arith}
use Rattle.std.proofs.lemmas.Bool.{cases_lt}
use Rattle.kinds_table.specs.Rows.{back, row_at}
use Rattle.kinds_table.proofs.Lowering.{back_near, back_far}
use Rattle.kinds_table.proofs.rows.offer.Goals as goal

pub loop-block-preserved : goal.loop-block-preserved
loop-block-preserved c = (same, made)
  where
    same : (j : ℕ) → (j < c.args.row + 16 * (c.loop-block.block - 1)) ⊎ (c.args.row + 16 * c.args.blocks ≤ j) → get_or c.lower.new.room j 0 ≡ get_or c.args.room.now j 0
    same j (inl h) = c.lower.ensures.same j (inl h) ∙ c.loop-block.invariant.0 j (inl (omega arith))
    same j (inr h) = c.lower.ensures.same j (inr (omega (arith, c.loop-block-test.true, c.loop-block.auto.block))) ∙ c.loop-block.invariant.0 j (inr h)

    made : (x : ℕ) → 16 * (c.loop-block.block - 1) ≤ x → x < 16 * c.args.blocks →
        row_at c.lower.new.room c.args.row x ≡ min (row_at c.args.room.now c.args.row x) (back (row_at c.args.room.now c.args.row) c.args.weight x + c.args.gain)
    made x low high = here (cases_lt x (16 * c.loop-block.block))
      where
        read : (x < c.args.weight) ⊎ (c.args.weight ≤ x) → get_or c.args.room.now (c.args.row + x - c.args.weight) 0 ≡ back (row_at c.args.room.now c.args.row) c.args.weight x
        read (inl far) =
            let e : c.args.row + x - c.args.weight ≡ c.args.row - 16 + (16 + x - c.args.weight) = omega (arith, c.requires.room, c.loop-block-test.true) in
            rw (e, back_far (row_at c.args.room.now c.args.row) c.args.weight x far) (c.requires.blank (16 + x - c.args.weight) (omega arith))
        read (inr near) =
            let e : c.args.row + x - c.args.weight ≡ c.args.row + (x - c.args.weight) = omega arith in
            rw (e, back_near (row_at c.args.room.now c.args.row) c.args.weight x near) refl

        here : (x < 16 * c.loop-block.block) ⊎ (16 * c.loop-block.block ≤ x) →
            row_at c.lower.new.room c.args.row x ≡ min (row_at c.args.room.now c.args.row x) (back (row_at c.args.room.now c.args.row) c.args.weight x + c.args.gain)
        here (inr past) = c.lower.ensures.same _ (inr (omega (arith, c.loop-block-test.true))) ∙ c.loop-block.invariant.1 x past high
        here (inl now) =
            let y : ℕ = x - 16 * (c.loop-block.block - 1) in
            let e : c.args.row + 16 * (c.loop-block.block - 1) + y ≡ c.args.row + x = omega arith in
            let f : c.args.row + 16 * (c.loop-block.block - 1) - c.args.weight + y ≡ c.args.row + x - c.args.weight = omega (arith, c.loop-block-test.true, c.requires.room) in
            rw (e, f) at (c.lower.ensures.made y (omega arith))
            ∙ ap₂ (λ (a b : ℕ). min a (b + c.args.gain)) (c.loop-block.invariant.0 (c.args.row + x) (inl (omega arith)))
            (c.loop-block.invariant.0 (c.args.row + x - c.args.weight) (inl (omega (arith, c.requires.some))) ∙ read (cases_lt x c.args.weight))
