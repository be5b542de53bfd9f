-- What the loop over the pans keeps: the heaviest so far.
use Rattle.std.proofs.Common.{◌≡◌, ℕ, ◌<◌, ◌≤◌, ◌⊎◌, get_or}
use Rattle.exact.proofs.free.heaviest.Given as goal

abbrev pub invariant-loop-w : goal.invariant-loop-w
invariant-loop-w l =
    (l.found ≤ l.most)
    × (((l.found ≡ 0) ⊎ ((i : ℕ) × (i < l.w-index) × (get_or l.free i 0 ≡ l.found)))
    × ((i : ℕ) → i < l.w-index → get_or l.free i 0 ≤ l.most → get_or l.free i 0 ≤ l.found))
