-- What the loop that writes a block keeps.
use Rattle.std.proofs.Common.{◌≡◌, ℕ, ◌+◌, ◌<◌, ◌≤◌, ◌⊎◌, get_or}
use Rattle.kinds_table.proofs.blocks.put.Given as goal

abbrev pub invariant-loop-x : goal.invariant-loop-x
invariant-loop-x l =
    ((j : ℕ) → (j < l.at) ⊎ (l.at + 16 ≤ j) → get_or l.room j 0 ≡ get_or l.initial.room j 0)
    × ((j : ℕ) → j < l.x → get_or l.room (l.at + j) 0 ≡ get_or l.block j 0)
