-- What is left of the proof of the first choice of four pans.
use Rattle.std.proofs.Common.{suc, arith}
use Rattle.exact.proofs.Leading.{behind_is, tells_drop, leads_here, leads_on, picks_more, picks_fit, picks_none}
use Rattle.exact.proofs.picks.four.Goals as goal
use Rattle.exact.proofs.picks.four.Goals.{then-w-weight+in_default, else-w-weight}

pub three-requires-clause-ones : goal.three-requires-clause-ones
three-requires-clause-ones c = rw behind_is (tells_drop (suc c.loop-pan.pan) (omega arith) c.requires.ones)

pub three-requires-clause-pairs : goal.three-requires-clause-pairs
three-requires-clause-pairs c = rw behind_is (tells_drop (suc c.loop-pan.pan) (omega arith) c.requires.pairs)

pub joined-requires : goal.joined-requires
joined-requires c =
    let p = rw behind_is at c.in-Some.ensures in
    picks_fit (leads_here (omega arith) c.if-w-weight.true c.loop-pan.invariant p) c.requires.few p

pub returns-in-Some : goal.returns-in-Some
returns-in-Some c =
    let p = rw behind_is at c.in-Some.ensures in
    rw c.joined.ensures (picks_more (leads_here (omega arith) c.if-w-weight.true c.loop-pan.invariant p) p)

pub loop-pan-preserved : goal.loop-pan-preserved
loop-pan-preserved c =
    elim c.if-w-weight.branch [
      | then-w-weight+in_default w ↦ leads_on c.loop-pan.invariant (λ h. let never = rw behind_is at w.in_default.ensures in never h.rest h.makes)
      | else-w-weight w ↦ leads_on c.loop-pan.invariant (λ h. omega (arith, h.light, w.if-w-weight.false))
    ]

pub returns : goal.returns
returns c = picks_none (λ i h. c.loop-pan.invariant i (omega (arith, h.within)) h)
