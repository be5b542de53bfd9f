-- What the loop over the weights keeps: none so far will do.
use Rattle.std.proofs.Common.{ℕ, ◌+◌, ◌-◌, ◌<◌, ◌≤◌, get_or}
use Rattle.kinds_table.specs.Rows.{cost_in}
use Rattle.kinds_table.proofs.search.lightest.Given as goal

abbrev pub invariant-loop-over : goal.invariant-loop-over
invariant-loop-over l =
    (x v : ℕ) → l.from ≤ x → x < l.over → v ≤ x → l.limit ≤ cost_in l.row v + get_or l.joined (x - v) 0
