-- What the loop over the pans keeps: the survey of the pans so far.
use Rattle.std.proofs.Common.{drop}
use Rattle.table.proofs.Surveying.{Surveying}
use Rattle.table.proofs.look.survey.Given as goal

abbrev pub invariant-loop-pan : goal.invariant-loop-pan
invariant-loop-pan l =
    Surveying l.ring.rule.age l.ring.weights.now l.ring.ages.now (drop l.pan l.ring.weights.now) (drop l.pan l.ring.ages.now) l.seen
