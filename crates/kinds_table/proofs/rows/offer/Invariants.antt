-- What the loop over the blocks, from the last to the first, keeps.
use Rattle.std.proofs.Common.{◌≡◌, ℕ, ◌+◌, ◌*◌, ◌<◌, ◌≤◌, ◌⊎◌, min, get_or}
use Rattle.kinds_table.specs.Rows.{back, row_at}
use Rattle.kinds_table.proofs.rows.offer.Given as goal

abbrev pub invariant-loop-block : goal.invariant-loop-block
invariant-loop-block l =
    ((j : ℕ) → (j < l.row + 16 * l.block) ⊎ (l.row + 16 * l.blocks ≤ j) → get_or l.room j 0 ≡ get_or l.initial.room j 0)
    × ((x : ℕ) → 16 * l.block ≤ x → x < 16 * l.blocks → row_at l.room l.row x ≡ min (row_at l.initial.room l.row x) (back (row_at l.initial.room l.row) l.weight x + l.gain))
