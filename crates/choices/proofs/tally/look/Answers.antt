-- What is left of the proof of the look over the pans.
use Rattle.std.proofs.Common.{arith, inl, inr, ◌∙◌}
use Rattle.choices.proofs.Looking.{looking_next, looking_all, looking_room}
use Rattle.choices.proofs.tally.look.Goals as goal

pub overflow_shr-choice : goal.overflow_shr-choice
overflow_shr-choice c =
    let h = c.in-Some.ensures.steps.1.1 in
    omega (arith, c.loop-w.invariant.3.few, h.1, h.2)

pub with-seen-requires : goal.with-seen-requires
with-seen-requires c = omega (arith, looking_room c.loop-w.invariant.3 c.in-Some.ensures.steps.0.0)

pub loop-w-preserved : goal.loop-w-preserved
loop-w-preserved c =
    let h = c.in-Some.ensures.steps in
    let e = c.with-seen.ensures in
    (((tt, tt), tt), tt, h.1.0 ∙ c.loop-w.invariant.2, looking_next c.loop-w.invariant.3 h.0.0 h.0.1 h.1.1.2 h.1.1.1 e.weighs e.counts e.empties e.olds)

pub returns : goal.returns
returns c =
    let h = c.loop-w.invariant.3 in
    looking_all h
    (elim c.in-None.ensures.steps [
      | inl x ↦ elim x.1 [ inl y ↦ omega (arith, h.left, y.1.0) | inr y ↦ omega (arith, h.left, h.paired, y.1.0) ]
      | inr x ↦ omega (arith, c.loop-w.invariant.2, x.1.1.0)
    ])
