-- The law of pans that are made old.
use Rattle.narrowed.proofs.Narrowing.{old_stay_open}
use Rattle.narrowed.proofs.laws.old_stay_open.Goals as goal

pub returns : goal.returns
returns c = old_stay_open
