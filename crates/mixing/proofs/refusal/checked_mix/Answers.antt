-- What is left of the proof that without a refusal everything is in order.
use Rattle.choices.specs.Stand.{stand}
use Rattle.packing.proofs.Refused.{passed_as}
use Rattle.mixing.proofs.Refused.{mixable}
use Rattle.mixing.proofs.refusal.checked_mix.Goals as goal

pub returns-clause-taken : goal.returns-clause-taken
returns-clause-taken c =
    mixable c.args.rule.now (stand c.args.weights.now c.args.ages.now) c.args.kinds.now (rw c.behind.ensures.value at c.in_ok-whole.ensures.taken)
    (passed_as _ _ _ c.in_ok-check_kinds.ensures).0
