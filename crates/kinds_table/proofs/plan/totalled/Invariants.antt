-- What the loop over the windows keeps.
use Rattle.std.proofs.Common.{◌≡◌, ℕ, ◌*◌, ◌≤◌, ◌^◌, get_or}
use Rattle.kinds_table.specs.Plans.{shut}
use Rattle.kinds_table.specs.Rows.{sum_below}
use Rattle.kinds_table.proofs.plan.totalled.Given as goal

abbrev pub invariant-loop-kind : goal.invariant-loop-kind
invariant-loop-kind l =
    (l.all.least ≡ sum_below (λ (k : ℕ). (get_or l.windows k shut).least) l.kind)
    × (l.all.most ≡ sum_below (λ (k : ℕ). (get_or l.windows k shut).most) l.kind)
    × ((l.all.least ≤ l.kind * 2 ^ 32) × (l.all.most ≤ l.kind * 2 ^ 32))
