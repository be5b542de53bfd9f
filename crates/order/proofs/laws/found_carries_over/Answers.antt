-- The law that what is found is found wherever the same choices are allowed and weigh the same.
use Rattle.order.proofs.Over.{found_over}
use Rattle.order.proofs.laws.found_carries_over.Goals as goal

pub returns : goal.returns
returns c = found_over
