-- What is left of the proof that the rows are filled.
use Rattle.std.proofs.Common.{length, arith}
use Rattle.std.proofs.lemmas.List.{length-drop}
use Rattle.kinds_table.specs.Costs.{from}
use Rattle.kinds_table.specs.Plans.{lot_of}
use Rattle.kinds_table.proofs.tables.fill.Goals as goal

pub loop-pan-init : goal.loop-pan-init
loop-pan-init c =
    let ring = c.args.mixed.ring in
    let l = lot_of ring.rule c.args.mixed.kinds.now ring.weights.now ring.ages.now in
    c.start.ensures (from l (length ring.weights.now)) (omega (arith, length-drop (length ring.weights.now) ring.weights.now))
