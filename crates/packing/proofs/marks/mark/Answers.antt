-- What is left of the proof that the pans are marked.
use Rattle.std.proofs.Common.{◌+◌, cond, ◌≢◌, sym, ◌∙◌, arith}
use Rattle.std.proofs.lemmas.List.{get_or-set_other}
use Rattle.std.proofs.lemmas.Bool.Decides.{nat_tests}
use Rattle.packing.proofs.Marking.{marking_none, marking_more, marking_all}
use Rattle.packing.proofs.marks.mark.Goals as goal
use Rattle.packing.proofs.marks.mark.Goals.{then-left-eq1, else-left-eq1}

pub loop-x-init : goal.loop-x-init
loop-x-init c = (marking_none (λ d x. cond d 0 (x + c.args.more)) c.args.numbers.now c.args.pans, λ k h. c.requires k)

pub loop-x-preserved : goal.loop-x-preserved
loop-x-preserved c = (
  marking_more (λ d x. cond d 0 (x + c.args.more)) c.loop-x.numbers c.loop-x.x-index c.loop-x.left c.if-left-eq1.x (omega arith)
      (elim c.if-left-eq1.branch [ then-left-eq1 w ↦ grind (arith, nat_tests, w.x-is) | else-left-eq1 w ↦ grind (arith, nat_tests, w.x-is) ])
      ∙ c.loop-x.invariant.0,
  λ k h. let ne : k ≢ c.loop-x.x-index = omega arith in rw get_or-set_other (c.loop-x.invariant.1 k (omega arith)),
)

pub returns : goal.returns
returns c = sym (marking_all (λ d x. cond d 0 (x + c.args.more)) c.loop-x.numbers c.loop-x.x-index c.loop-x.left (omega arith)) ∙ c.loop-x.invariant.0

pub overflow_add-x : goal.overflow_add-x
overflow_add-x c = omega (arith, c.loop-x.invariant.1 c.loop-x.x-index (omega arith))
