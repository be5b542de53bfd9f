-- How many steps each of the sweeps so far can take at least.
use Rattle.std.proofs.Common.{ℕ, ◌+◌, ◌<◌, ◌≤◌, get_or}
use Rattle.halves_sweeps.specs.declared.lane.Lane.{Lane}
use Rattle.halves_sweeps.proofs.four.all_free.Given as goal

abbrev pub invariant-loop-lane : goal.invariant-loop-lane
invariant-loop-lane l = (i : ℕ) (d : Lane) → i < l.lane-index → ((get_or l.lanes i d).at + l.steps ≤ l.back) × (l.steps ≤ (get_or l.lanes i d).left)
