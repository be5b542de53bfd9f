-- The entries so far are too small.
use Rattle.std.proofs.Common.{ℕ, ◌+◌, ◌-◌, ◌<◌, ◌≤◌, length, get_or}
use Rattle.kinds_halves.proofs.row.Row.reach.Given as goal

abbrev pub invariant-loop-q : goal.invariant-loop-q
invariant-loop-q l =
    (l.at ≤ l.q) × (l.q ≤ length l.self.back.now) × ((j : ℕ) → l.at ≤ j → j < l.q → l.self.top + (l.self.front + get_or l.self.back.now j 0) < l.from)

abbrev pub decreases-loop-q : goal.decreases-loop-q
decreases-loop-q l = length l.self.back.now - l.q
