-- The law that what fits a rule fits a looser one.
use Rattle.narrowed.proofs.Ruling.{looser_still_fits}
use Rattle.narrowed.proofs.laws.looser_still_fits.Goals as goal

pub returns : goal.returns
returns c = looser_still_fits
