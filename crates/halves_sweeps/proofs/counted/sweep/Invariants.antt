-- What the sweep keeps from turn to turn.
use Rattle.std.proofs.Common.{◌+◌, ◌-◌, length}
use Rattle.halves_sweeps.specs.Sweep.{Meets}
use Rattle.halves_sweeps.proofs.Sweeping.{Sweeping}
use Rattle.halves_sweeps.proofs.counted.sweep.Given as goal

abbrev pub invariant-loop-i : goal.invariant-loop-i
invariant-loop-i l = Sweeping (Meets l.band) l.lists.front.now l.lists.back.now l.from l.to l.i l.j l.found

abbrev pub decreases-loop-i : goal.decreases-loop-i
decreases-loop-i l = (length l.lists.back.now - l.i) + l.j
