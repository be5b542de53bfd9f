-- What the merge keeps from turn to turn.
use Rattle.std.proofs.Common.{◌≡◌, ℕ, ◌+◌, ◌≤◌, get_or}
use Rattle.halves_growth.proofs.Merging.{Merging}
use Rattle.halves_growth.proofs.merges.merge.Given as goal

abbrev pub invariant-loop-j : goal.invariant-loop-j
invariant-loop-j l =
    Merging l.initial.es l.es l.job.kept l.job.added l.job.gain l.i l.j
    × ((q : ℕ) → l.job.kept + l.job.added ≤ q → get_or l.es q 0 ≡ get_or l.initial.es q 0)

abbrev pub decreases-loop-j : goal.decreases-loop-j
decreases-loop-j l = l.i + l.j
