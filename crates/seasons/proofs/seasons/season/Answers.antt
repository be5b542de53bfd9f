-- What is left of the proof that a season is played by a rule.
use Rattle.seasons.proofs.ByRule.{played_by, untouched}
use Rattle.packing.proofs.Refused.{passed_as}
use Rattle.seasons.proofs.seasons.season.Goals as goal

pub returns-clause-answer : goal.returns-clause-answer
returns-clause-answer c =
    let f = passed_as _ _ _ c.in_ok-rule.ensures.value in
    let e = c.told.ensures in
    rw f.0 (played_by _ _ _ _ _ _ _ _ _ _ _ f.1 c.play-run.ensures.played e.bags e.weight e.ended e.given)

pub returns-clause-never : goal.returns-clause-never
returns-clause-never c = let h = c.in_ok-rule.ensures in untouched _ _ _ h.small h.taken
