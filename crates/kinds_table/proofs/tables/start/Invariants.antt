-- What the loop over the kinds keeps.
use Rattle.std.proofs.Common.{◌≡◌, ℕ, ◌+◌, ◌*◌, ◌<◌, ◌≢◌, length, get_or}
use Rattle.kinds_table.specs.Costs.{never}
use Rattle.kinds_table.specs.Rows.{Capped}
use Rattle.kinds_table.proofs.tables.start.Given as goal

abbrev pub invariant-loop-kind : goal.invariant-loop-kind
invariant-loop-kind l =
    Capped l.rows
    × ((k : ℕ) → k < l.kind → get_or l.rows (l.plan.wide * k + 16) 0 ≡ 0)
    × ((j : ℕ) → j < length l.rows → ((k : ℕ) → k < l.kind → j ≢ l.plan.wide * k + 16) → get_or l.rows j 0 ≡ never)
