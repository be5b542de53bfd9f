-- The law that nothing is turned away just where everything is in order.
use Rattle.mixing.proofs.Refused.{refusals_exact}
use Rattle.mixing.proofs.exactness.mix_refusals_are_exact.Goals as goal

pub returns : goal.returns
returns c = refusals_exact
