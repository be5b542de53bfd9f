-- The worked examples' proof.
use Rattle.laws.proofs.Examples.{first_pair, fewer_pans, empty_and_old}
use Rattle.laws.proofs.worked_examples.Goals as goal

pub returns : goal.returns
returns c = record { pair = first_pair; fewer = fewer_pans; none = empty_and_old }
