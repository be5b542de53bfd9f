-- How far the sweep has come.
use Rattle.std.proofs.Common.{ℕ, ◌+◌, ◌-◌, length}
use Rattle.halves_sweeps.specs.Lane.{Strode}
use Rattle.halves_sweeps.proofs.four.finish.Given as goal

abbrev pub invariant-loop-run : goal.invariant-loop-run
invariant-loop-run l = (k : ℕ) × Strode l.lists.front.now l.lists.back.now l.initial.run l.run k

abbrev pub decreases-loop-run : goal.decreases-loop-run
decreases-loop-run l = (length l.lists.back.now - l.run.at) + l.run.left
