-- What the loop over the weights, from the last to the first, keeps.
use Rattle.std.proofs.Common.{◌≡◌, ℕ, ◌+◌, ◌*◌, ◌<◌, ◌≤◌, ◌⊎◌, min, get_or}
use Rattle.kinds_table.specs.Costs.{never}
use Rattle.kinds_table.specs.Rows.{back, row_at}
use Rattle.kinds_table.proofs.rows.force.Given as goal

abbrev pub invariant-loop-x : goal.invariant-loop-x
invariant-loop-x l =
    ((j : ℕ) → (j < l.row + l.x) ⊎ (l.row + 16 * l.blocks ≤ j) → get_or l.room j 0 ≡ get_or l.initial.room j 0)
    × ((y : ℕ) → l.x ≤ y → y < 16 * l.blocks → row_at l.room l.row y ≡ min never (back (row_at l.initial.room l.row) l.weight y + l.gain))
