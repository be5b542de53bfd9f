-- What is left of the proof of the survey.
use Rattle.std.proofs.Common.{arith}
use Rattle.std.proofs.lemmas.List.{drop_more}
use Rattle.table.proofs.Surveying.{surveying_next}
use Rattle.table.proofs.look.survey.Goals as goal

pub loop-pan-preserved : goal.loop-pan-preserved
loop-pan-preserved c =
    let e = c.with-seen.ensures in
    surveying_next c.loop-pan.invariant (drop_more c.args.ring.weights.now c.loop-pan.pan 0 c.loop-pan-test.true)
    (drop_more c.args.ring.ages.now c.loop-pan.pan 0 (omega (arith, c.args.ring.ordered.paired, c.loop-pan-test.true))) e.old_weight e.old_count e.free e.heavy e.old_filled
