-- What the loop over two blocks keeps.
use Rattle.std.proofs.Common.{◌≡◌, ℕ, ◌+◌, ◌<◌, min, length, get_or}
use Rattle.kinds_table.proofs.blocks.lesser.Given as goal

abbrev pub invariant-loop-x : goal.invariant-loop-x
invariant-loop-x l = (length l.made ≡ 16) × ((j : ℕ) → j < l.x → get_or l.made j 0 ≡ min (get_or l.kept j 0) (get_or l.added j 0 + l.gain))
