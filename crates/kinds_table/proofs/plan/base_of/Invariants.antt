-- What the loop over the kinds keeps.
use Rattle.std.proofs.Common.{◌≡◌, ℕ, ◌*◌, ◌<◌, ◌≤◌, ◌^◌, get_or}
use Rattle.kinds_table.specs.Rows.{sum_below}
use Rattle.kinds_table.proofs.plan.base_of.Given as goal

abbrev pub invariant-loop-kind : goal.invariant-loop-kind
invariant-loop-kind l =
    (l.base ≡ sum_below (λ (k : ℕ). get_or l.least k 0) l.kind)
    × ((k : ℕ) → k < l.kind → get_or l.least k 0 ≤ get_or l.most k 0)
    × (l.base ≤ l.kind * 2 ^ 32)
