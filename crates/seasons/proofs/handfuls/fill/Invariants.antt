-- What the falling handfuls keep from pan to pan.
use Rattle.seasons.proofs.Filling.{Filling}
use Rattle.seasons.proofs.handfuls.fill.Given as goal

abbrev pub invariant-loop-w : goal.invariant-loop-w
invariant-loop-w l = Filling l.handfuls l.initial.weights l.from l.weights l.w-index l.next
