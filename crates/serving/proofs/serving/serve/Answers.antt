-- How each exit of the loop follows from the run so far.
use Rattle.std.proofs.Common.{◌≡◌, ◌∙◌, true, true≢false, sym}
use Rattle.serving.proofs.Known.{unchanged}
use Rattle.serving.proofs.Running.{begins, broken, broken_after, broken_within, goes_on, served_broken, to_a_refusal, took}
use Rattle.serving.proofs.serving.serve.Goals.{else-refused-via-then-refused+else-manner, else-refused-via-else-refused}
use Rattle.serving.proofs.serving.serve.Goals as goal

pub loop-number-init : goal.loop-number-init
loop-number-init g c = begins _ _ _ _

pub returns-in_err-text : goal.returns-in_err-text
returns-in_err-text g c = served_broken _ _ _ _ _ _ _ c.from_residual.result c.from_residual.ensures.0 (broken (begins true _ _ _) _ (unchanged _))

pub returns-in_err-next_line : goal.returns-in_err-next_line
returns-in_err-next_line g c = served_broken _ _ _ _ _ _ _ c.from_residual-in_err-next_line.result c.from_residual-in_err-next_line.ensures.0 (broken c.loop-number.invariant _ (unchanged _))

pub returns-in_err-flush : goal.returns-in_err-flush
returns-in_err-flush g c = served_broken _ _ _ _ _ _ _ c.from_residual-in_err-flush.result c.from_residual-in_err-flush.ensures.0 (broken c.loop-number.invariant _ c.flush.ensures.bytes)

pub returns-in_err-refused : goal.returns-in_err-refused
returns-in_err-refused g c =
    let read = took _ _ _ c.as_slice.result.now _ c.in_ok-next_line.ensures c.if-not-branch.false c.as_slice.ensures.value in
    served_broken _ _ _ _ _ _ _ c.from_residual-in_err-refused.result c.from_residual-in_err-refused.ensures.0 (broken_within c.loop-number.invariant _ _ read c.in_err-refused.ensures)

pub returns-in_err-flush-2 : goal.returns-in_err-flush-2
returns-in_err-flush-2 g c =
    let read = took _ _ _ c.as_slice.result.now _ c.in_ok-next_line.ensures c.if-not-branch.false c.as_slice.ensures.value in
    served_broken _ _ _ _ _ _ _ c.from_residual-in_err-flush-2.result c.from_residual-in_err-flush-2.ensures.0 (broken_after c.loop-number.invariant _ _ read c.in_ok-refused.ensures _ c.flush-then-manner.ensures.bytes)

pub returns-then-manner : goal.returns-then-manner
returns-then-manner g c =
    let read = took _ _ _ c.as_slice.result.now _ c.in_ok-next_line.ensures c.if-not-branch.false c.as_slice.ensures.value in
    to_a_refusal c.loop-number.invariant _ _ read c.in_ok-refused.ensures c.if-refused.true c.if-manner.true _ c.flush-then-manner.ensures.bytes

pub loop-number-preserved : goal.loop-number-preserved
loop-number-preserved g c =
    let read = took _ _ _ c.as_slice.result.now _ c.in_ok-next_line.ensures c.if-not-branch.false c.as_slice.ensures.value in
    goes_on c.loop-number.invariant _ _ read c.in_ok-refused.ensures (λ (strict : c.args.manner.strict ≡ true). elim c.else-refused.branch [
      | else-refused-via-then-refused+else-manner w ↦ absurd (true≢false (sym strict ∙ w.if-manner.false))
      | else-refused-via-else-refused w ↦ w.if-refused.false
    ])

pub returns : goal.returns
returns g c = broken c.loop-number.invariant _ (unchanged _)
