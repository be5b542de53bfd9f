-- What is left of the proof that blocks are laid over others.
use Rattle.std.proofs.Common.{◌≡◌, ℕ, ◌+◌, ◌-◌, ◌*◌, ◌<◌, ◌≤◌, min, get_or, ◌⊎◌, inl, inr, ap₂, ◌∙◌, arith}
use Rattle.std.proofs.lemmas.Bool.{cases_lt}
use Rattle.kinds_table.proofs.joins.lay.Goals as goal

pub loop-block-preserved : goal.loop-block-preserved
loop-block-preserved c = (same, λ x low. made x low (cases_lt x (16 * c.loop-block.block)))
  where
    same : (j : ℕ) → (j < c.args.at) ⊎ (c.args.at + 16 * (c.loop-block.block + 1) ≤ j) → get_or c.lower.new.room j 0 ≡ get_or c.args.sums.now j 0
    same j (inl h) = c.lower.ensures.same j (inl (omega arith)) ∙ c.loop-block.invariant.0 j (inl h)
    same j (inr h) = c.lower.ensures.same j (inr (omega arith)) ∙ c.loop-block.invariant.0 j (inr (omega arith))

    made : (x : ℕ) → x < 16 * (c.loop-block.block + 1) → (x < 16 * c.loop-block.block) ⊎ (16 * c.loop-block.block ≤ x) →
        get_or c.lower.new.room (c.args.at + x) 0 ≡ min (get_or c.args.sums.now (c.args.at + x) 0) (get_or c.args.sums.now (c.args.from + x) 0 + c.args.gain)
    made x low (inl older) = c.lower.ensures.same _ (inl (omega arith)) ∙ c.loop-block.invariant.1 x older
    made x low (inr newer) =
        let y : ℕ = x - 16 * c.loop-block.block in
        let e : c.args.at + 16 * c.loop-block.block + y ≡ c.args.at + x = omega arith in
        let f : c.args.from + 16 * c.loop-block.block + y ≡ c.args.from + x = omega arith in
        rw (e, f) at (c.lower.ensures.made y (omega arith))
        ∙ ap₂ (λ (a b : ℕ). min a (b + c.args.gain)) (c.loop-block.invariant.0 (c.args.at + x) (inr (omega arith)))
        (c.loop-block.invariant.0 (c.args.from + x) (inl (omega (arith, c.requires.room, c.loop-block-test.true, c.loop-block.auto))))
