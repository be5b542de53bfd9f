-- The promise's proof.
use Rattle.laws.proofs.Best.{one_best_or_none}
use Rattle.laws.proofs.one_is_best_or_none.Goals as goal

pub returns : goal.returns
returns c = one_best_or_none
