-- The places so far.
use Rattle.std.proofs.Common.{◌≡◌, ℕ, ◌-◌, ◌*◌, ◌^◌, ◌<◌, ◌≤◌, get_or}
use Rattle.halves_sieves.proofs.worth.worth.Given as goal

abbrev pub invariant-loop-opened : goal.invariant-loop-opened
invariant-loop-opened l = (x : ℕ) → x < l.opened → x ≤ l.bounds.limit → get_or l.least x 0 ≡ (l.bounds.least - get_or l.most (l.bounds.limit - x) 0) * 2 ^ 29
