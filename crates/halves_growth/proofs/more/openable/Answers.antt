-- What is left of the proof of how many entries the pan is opened to.
use Rattle.halves_growth.proofs.Growing.{opening_some, opening_none}
use Rattle.halves_growth.proofs.more.openable.Goals as goal

pub returns-then-pan : goal.returns-then-pan
returns-then-pan c = opening_some _ _ _ _ _ _ c.if-pan.true c.below.ensures

pub returns-else-pan : goal.returns-else-pan
returns-else-pan c = opening_none _ _ _ _ _ c.if-pan.false
