-- The laws that make better an order.
use Rattle.order.proofs.Orders.{one_is_better, better_goes_on}
use Rattle.order.proofs.laws.better_is_an_order.Goals as goal

pub returns : goal.returns
returns c = record { one = one_is_better; on = better_goes_on }
