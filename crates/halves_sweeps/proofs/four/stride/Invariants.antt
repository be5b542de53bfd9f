-- How far the four have come, and within a turn those that have taken their step.
use Rattle.halves_sweeps.specs.Lane.{Strides}
use Rattle.halves_sweeps.proofs.Striding.{Turning}
use Rattle.halves_sweeps.proofs.four.stride.Given as goal

abbrev pub invariant-loop-done : goal.invariant-loop-done
invariant-loop-done l = Strides l.lists.front.now l.lists.back.now l.fn.lanes l.run l._done

abbrev pub invariant-loop-lane : goal.invariant-loop-lane
invariant-loop-lane l = Turning l.lists.front.now l.lists.back.now l.fn.lanes l.lane-items l._done l.lane-index
