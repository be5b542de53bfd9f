-- What is left of the proof of what lies in the opened pans of each kind.
use Rattle.std.proofs.Common.{refl, arith}
use Rattle.kinds_halves.proofs.ByKind.{summed_more, sums_fit}
use Rattle.kinds_halves.proofs.sums.by_kind.Goals as goal

pub overflow_add-sums : goal.overflow_add-sums
overflow_add-sums c =
    let m = c.args.mixed in
    omega (arith, sums_fit m.kinds.now m.ring.weights.now m.paired c.args.choice c.loop-pan.pan _ c.loop-pan-test.true refl c.loop-pan.sums m.ring.ordered.light m.ring.ordered.few (omega (arith, m.known c.loop-pan.pan, m.few)) c.loop-pan.invariant)

pub loop-pan-preserved : goal.loop-pan-preserved
loop-pan-preserved c =
    let m = c.args.mixed in
    summed_more m.kinds.now m.ring.weights.now m.paired c.args.choice c.loop-pan.pan _ c.loop-pan-test.true refl c.loop-pan.sums (omega (arith, m.known c.loop-pan.pan, m.few)) c.loop-pan.invariant
