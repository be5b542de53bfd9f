-- The laws that lead from a wider test to a narrower one.
use Rattle.order.proofs.Over.{best_of_more, found_of_more, none_of_more}
use Rattle.order.proofs.laws.best_of_more.Goals as goal

pub returns : goal.returns
returns c = record { best = best_of_more; none = none_of_more; found = found_of_more }
