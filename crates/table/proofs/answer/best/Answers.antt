-- What is left of the proof that the best bag is answered.
use Rattle.std.proofs.Common.{sym, ◌∙◌}
use Rattle.table.proofs.Bests.{none_left}
use Rattle.table.proofs.answer.best.Goals as goal

pub returns-then-not-leaves_a_bag : goal.returns-then-not-leaves_a_bag
returns-then-not-leaves_a_bag c =
    let h = c.survey-seen.ensures in
    none_left c.args.ring.rule c.args.ring.weights.now c.args.ring.ages.now c.args.ring.ordered.paired
    (rw (h.old_filled, h.old_count, h.old_weight) at (sym c.leaves_a_bag.ensures ∙ c.if-not-leaves_a_bag.true))
