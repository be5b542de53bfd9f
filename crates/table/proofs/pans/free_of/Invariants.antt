-- What the loop over the pans keeps: those that are not reached yet hold nothing.
use Rattle.std.proofs.Common.{◌≡◌, ℕ, ◌<◌, ◌≤◌, length, get_or}
use Rattle.table.specs.Pans.{free_at}
use Rattle.table.proofs.pans.free_of.Given as goal

abbrev pub invariant-loop-pan : goal.invariant-loop-pan
invariant-loop-pan l =
    (length l.free ≡ 24) × ((j : ℕ) → j < l.pan → get_or l.free j 0 ≡ free_at l.ring.rule.age l.ring.weights.now l.ring.ages.now j)
    × ((j : ℕ) → l.pan ≤ j → get_or l.free j 0 ≡ 0)
