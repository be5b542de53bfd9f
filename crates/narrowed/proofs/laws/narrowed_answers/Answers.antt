-- The law of emptied pans and marks in one ring.
use Rattle.narrowed.proofs.Narrowing.{narrowed_fits}
use Rattle.narrowed.proofs.laws.narrowed_answers.Goals as goal

pub returns : goal.returns
returns c = narrowed_fits
