-- The laws of what a looser rule finds.
use Rattle.narrowed.proofs.Ruling.{looser_finds, none_stays}
use Rattle.narrowed.proofs.laws.looser_finds.Goals as goal

pub returns : goal.returns
returns c = record { finds = looser_finds; none = none_stays }
