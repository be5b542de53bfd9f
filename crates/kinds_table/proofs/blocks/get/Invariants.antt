-- What the loop that reads a block keeps.
use Rattle.std.proofs.Common.{◌≡◌, ℕ, ◌+◌, ◌<◌, length, get_or}
use Rattle.kinds_table.proofs.blocks.get.Given as goal

abbrev pub invariant-loop-x : goal.invariant-loop-x
invariant-loop-x l = (length l.block ≡ 16) × ((j : ℕ) → j < l.x → get_or l.block j 0 ≡ get_or l.room (l.at + j) 0)
