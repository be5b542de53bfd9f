-- What the loop that writes blocks of 255 keeps.
use Rattle.std.proofs.Common.{◌≡◌, ℕ, ◌+◌, ◌*◌, ◌<◌, get_or}
use Rattle.table.proofs.blocks.blank.Given as goal

abbrev pub invariant-loop-block : goal.invariant-loop-block
invariant-loop-block l =
    ((j : ℕ) → j < l.from → get_or l.room j 0 ≡ get_or l.initial.room j 0) × ((j : ℕ) → j < 64 * l.block → get_or l.room (l.from + j) 0 ≡ 255)
