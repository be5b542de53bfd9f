-- What is left of the proof that no sum within the limit is missed.
use Rattle.std.proofs.Common.{◌≡◌, ◌+◌, ◌*◌, ◌/◌, ◌%◌, ◌^◌, ◌<◌, arith}
use Rattle.halves_sweeps.proofs.Sweeping.{passed_more}
use Rattle.halves_sweeps.proofs.tops.least.Goals as goal

pub loop-preserved : goal.loop-preserved
loop-preserved c =
    let x = c.first-found.result in
    let low : x < c.args.to = c.if-found-to.false in
    let k = c.first-found.ensures.found low in
    let e : (x / 2 ^ 29 + 1) * 2 ^ 29 % 2 ^ 64 ≡ (x / 2 ^ 29 + 1) * 2 ^ 29 =
    omega (arith, k.adds, c.requires.low k.t k.top, c.args.lists.front_low k.p k.front, c.args.lists.back_low k.q k.back) in
    rw e (passed_more _ _ _ _ _ c.loop.at c.args.to x c.requires.apart c.loop.invariant c.first-found.ensures low (omega (arith, c.pans_in.ensures)))
