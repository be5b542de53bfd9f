-- What is left of the proof of the best bag.
use Rattle.kinds_table.specs.Plans.{lot_of}
use Rattle.kinds_table.proofs.answer.best.Goals as goal

pub read-requires-clause-joined : goal.read-requires-clause-joined
read-requires-clause-joined c =
    let m = c.args.mixed in
    c.join_all.ensures.joined (lot_of m.ring.rule m.kinds.now m.ring.weights.now m.ring.ages.now) c.fill.ensures
