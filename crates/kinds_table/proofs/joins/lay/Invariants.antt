-- What the loop over the blocks keeps.
use Rattle.std.proofs.Common.{◌≡◌, ℕ, ◌+◌, ◌*◌, ◌<◌, ◌≤◌, ◌⊎◌, min, get_or}
use Rattle.kinds_table.proofs.joins.lay.Given as goal

abbrev pub invariant-loop-block : goal.invariant-loop-block
invariant-loop-block l =
    ((j : ℕ) → (j < l.at) ⊎ (l.at + 16 * l.block ≤ j) → get_or l.sums j 0 ≡ get_or l.initial.sums j 0)
    × ((x : ℕ) → x < 16 * l.block → get_or l.sums (l.at + x) 0 ≡ min (get_or l.initial.sums (l.at + x) 0) (get_or l.initial.sums (l.from + x) 0 + l.gain))
