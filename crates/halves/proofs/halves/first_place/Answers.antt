-- What is left of the proof of the first place that the halves add up to.
use Rattle.halves.proofs.halves.first_place.Goals as goal

pub returns : goal.returns
returns c = (c.least-found.result, c.least-found.ensures, c.then_some.ensures)
