-- What is left of the proof of a step.
use Rattle.std.proofs.Common.{refl, ◌∙◌, arith}
use Rattle.halves_sweeps.proofs.Striding.{strode_one}
use Rattle.halves_sweeps.proofs.four.step.Goals as goal
use Rattle.halves_sweeps.proofs.four.step.Goals.{then-sum-lane, else-sum-lane}

pub returns : goal.returns
returns c =
    strode_one c.args.lists.front.now c.args.lists.back.now c.args.lists.front_rises c.args.lists.back_rises c.args.lane c.requires.swept c.requires.behind c.requires.front _ refl _ _ c.above-short.ensures
    (λ l. elim c.if-sum-lane.branch [ then-sum-lane w ↦ w.found-is | else-sum-lane w ↦ absurd (omega (arith, w.if-sum-lane.false)) ])
    (λ l. elim c.if-sum-lane.branch [ then-sum-lane w ↦ absurd (omega (arith, w.if-sum-lane.true)) | else-sum-lane w ↦ w.found-is ∙ w.min-found.ensures ])
