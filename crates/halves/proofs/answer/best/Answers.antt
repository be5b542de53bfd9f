-- What is left of the proof that the answer is the best.
use Rattle.halves.proofs.Answered.{first_is_best, none_is_none}
use Rattle.halves.proofs.answer.best.Goals as goal

pub returns : goal.returns
returns c =
    let ring = c.args.ring in
    let e = c.of.ensures in
    first_is_best ring.rule ring.weights.now ring.ages.now _ ring.ordered.few (rw (e.rule, e.weights, e.ages) at c.in_ok-placed.ensures.fitting)

pub returns-in_err-placed : goal.returns-in_err-placed
returns-in_err-placed c =
    let ring = c.args.ring in
    let e = c.of.ensures in
    rw c.from_residual.ensures (none_is_none ring.rule ring.weights.now ring.ages.now (rw (e.rule, e.weights, e.ages) at c.in_err-placed.ensures.fitting))
