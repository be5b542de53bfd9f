-- What is left of the proof that a block is made anew.
use Rattle.std.proofs.Common.{◌≢◌, ◌∙◌, arith, below_more}
use Rattle.std.proofs.lemmas.List.{get_or-set_same, get_or-set_other, length-set}
use Rattle.table.proofs.blocks.join_none.Goals as goal

pub loop-x-preserved : goal.loop-x-preserved
loop-x-preserved c = (
  length-set c.loop-x.made c.loop-x.x c.min.result ∙ c.loop-x.invariant.0,
  below_more _ _
      (λ j h. let ne : j ≢ c.loop-x.x = omega arith in get_or-set_other c.loop-x.made c.loop-x.x j c.min.result 0 ne ∙ c.loop-x.invariant.1 j h)
      (get_or-set_same c.loop-x.made c.loop-x.x c.min.result 0 (omega arith) ∙ (cc)),
)
