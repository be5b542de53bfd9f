-- What is the most so far.
use Rattle.std.proofs.Common.{◌≡◌, ℕ, ◌<◌, ◌≤◌, get_or}
use Rattle.packing.proofs.refusal.largest.Given as goal

abbrev pub invariant-loop-x : goal.invariant-loop-x
invariant-loop-x l = ((i : ℕ) → i < l.x-index → get_or l.numbers i 0 ≤ l.most) × ((i : ℕ) × (get_or l.numbers i 0 ≡ l.most))
