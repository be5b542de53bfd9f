-- What is left of the proof that the tallies are those of the groups' choices.
use Rattle.std.proofs.Common.{◌<◌, ◌≢◌, length, ◌∙◌, arith, length-set, get_or-set_other, get_or-set_same, below_more}
use Rattle.search.proofs.tallies.Tallies.of.Goals as goal

pub loop-i-preserved : goal.loop-i-preserved
loop-i-preserved c =
    let i = c.loop-i.i in
    let lt : i < length c.loop-i.group-items = omega (arith, c.loop-i.invariant.0) in (
      length-set _ _ _ ∙ c.loop-i.invariant.0,
      below_more _ _ (λ k h. let ne : k ≢ c.loop-i.i = omega arith in rw get_or-set_other (c.loop-i.invariant.1 k h)) (rw get_or-set_same (rw c.part.ensures at c.look.ensures)),
    )
