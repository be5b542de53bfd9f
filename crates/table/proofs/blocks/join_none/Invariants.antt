-- What the loop over a block's bytes keeps.
use Rattle.std.proofs.Common.{◌≡◌, ℕ, ◌+◌, ◌<◌, min, length, get_or}
use Rattle.table.proofs.blocks.join_none.Given as goal

abbrev pub invariant-loop-x : goal.invariant-loop-x
invariant-loop-x l = (length l.made ≡ 64) × ((j : ℕ) → j < l.x → get_or l.made j 0 ≡ min (get_or l.room (l.shut + j) 0) 255)
