-- The law that nothing is turned away just where everything is in order.
use Rattle.packing.proofs.Refused.{refusals_are_exact}
use Rattle.packing.proofs.laws.refusals_are_exact.Goals as goal

pub returns-clause-exact : goal.returns-clause-exact
returns-clause-exact c = refusals_are_exact
