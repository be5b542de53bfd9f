-- What is left of the proof of the table of single pans.
use Rattle.std.proofs.Common.{◌≡◌, length, length-set, arith}
use Rattle.exact.proofs.Telling.{filling_more, filling_all, marked_ones}
use Rattle.exact.proofs.tables.fill_ones.Goals as goal

pub loop-pan-preserved : goal.loop-pan-preserved
loop-pan-preserved c =
    let e : length c.args.ones.now ≡ length c.loop-pan.ones = omega arith in
    rw (c.min.ensures, e) (filling_more c.loop-pan.invariant (length-set c.loop-pan.ones _ _) (omega arith) (marked_ones (omega arith) (omega arith)))

pub returns : goal.returns
returns c =
    let e : c.loop-pan.pan ≡ length c.args.free.now = omega arith in
    filling_all (rw e at c.loop-pan.invariant) c.requires.few c.requires.some (omega arith)
