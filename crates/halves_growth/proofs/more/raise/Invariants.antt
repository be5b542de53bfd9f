-- What is raised, and what is not yet.
use Rattle.std.proofs.Common.{◌≡◌, ℕ, ◌+◌, ◌<◌, ◌≤◌, get_or}
use Rattle.halves_growth.proofs.more.raise.Given as goal

abbrev pub invariant-loop-e : goal.invariant-loop-e
invariant-loop-e l = ((p : ℕ) → p < l.e-index → get_or l.es p 0 ≡ get_or l.initial.es p 0 + l.gain) × ((p : ℕ) → l.e-index ≤ p → get_or l.es p 0 ≡ get_or l.initial.es p 0)
