-- What the two merges keep from turn to turn.
use Rattle.std.proofs.Common.{◌+◌}
use Rattle.halves_growth.proofs.Merging.{Merging}
use Rattle.halves_pairs.proofs.pair.merge_both.Given as goal

abbrev pub invariant-loop-j : goal.invariant-loop-j
invariant-loop-j l =
    Merging l.initial.front l.front l.first.kept l.first.added l.first.gain l.i l.j
    × Merging l.initial.back l.back l.second.kept l.second.added l.second.gain l.p l.q

abbrev pub decreases-loop-j : goal.decreases-loop-j
decreases-loop-j l = l.i + l.j
