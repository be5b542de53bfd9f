-- The law that at most one choice is best.
use Rattle.order.proofs.Orders.{best_is_one}
use Rattle.order.proofs.laws.best_is_one.Goals as goal

pub returns : goal.returns
returns c = best_is_one
