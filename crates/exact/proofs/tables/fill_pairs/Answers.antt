-- What is left of the proof of the table of two pans.
use Rattle.std.proofs.Common.{◌≡◌, length, arith}
use Rattle.exact.proofs.Leading.{behind_is}
use Rattle.exact.proofs.Telling.{filling_more, filling_all, marked_pairs}
use Rattle.exact.proofs.tables.fill_pairs.Goals as goal

pub loop-pan-preserved : goal.loop-pan-preserved
loop-pan-preserved c =
    let m = rw behind_is at c.mark.ensures in filling_more c.loop-pan.invariant (omega arith) (omega arith) (marked_pairs (omega arith) m)

pub returns : goal.returns
returns c =
    let e : c.loop-pan.pan ≡ length c.args.free.now = omega arith in
    filling_all (rw e at c.loop-pan.invariant) c.requires.few c.requires.some (omega arith)
