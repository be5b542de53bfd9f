-- What the loop over the row keeps.
use Rattle.std.proofs.Common.{◌≡◌, ℕ, ◌+◌, ◌<◌, ◌≤◌, ◌⊎◌, get_or}
use Rattle.kinds_table.proofs.joins.copy.Given as goal

abbrev pub invariant-loop-v : goal.invariant-loop-v
invariant-loop-v l =
    ((j : ℕ) → (j < l.at) ⊎ (l.at + l.v ≤ j) → get_or l.sums j 0 ≡ get_or l.initial.sums j 0)
    × ((x : ℕ) → x < l.v → get_or l.sums (l.at + x) 0 ≡ get_or l.row x 0)
