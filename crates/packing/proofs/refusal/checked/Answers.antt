-- What is left of the proof that without a refusal everything is in order.
use Rattle.packing.proofs.Refused.{passed_as, passed_all}
use Rattle.packing.proofs.refusal.checked.Goals as goal

pub returns-clause-taken : goal.returns-clause-taken
returns-clause-taken c = passed_all (passed_as _ _ _ c.in_ok-rule.ensures).0 (passed_as _ _ _ c.in_ok-check_pans.ensures).0 (passed_as _ _ _ c.in_ok-check_numbers.ensures).0
