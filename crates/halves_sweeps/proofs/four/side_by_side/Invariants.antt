-- How far the four have come, and that each can take so many steps more.
use Rattle.std.proofs.Common.{ℕ, ◌+◌, ◌≤◌, length}
use Rattle.std.specs.List.{All}
use Rattle.halves_sweeps.specs.Lane.{Strides}
use Rattle.halves_sweeps.proofs.Striding.{ahead}
use Rattle.halves_sweeps.proofs.four.side_by_side.Given as goal

abbrev pub invariant-loop-steps : goal.invariant-loop-steps
invariant-loop-steps l =
    ((k : ℕ) × Strides l.lists.front.now l.lists.back.now l.fn.lanes l.run k) × All (λ x. (x.at + l.steps ≤ length l.lists.back.now) × (l.steps ≤ x.left)) l.run

abbrev pub decreases-loop-steps : goal.decreases-loop-steps
decreases-loop-steps l = ahead l.lists.back.now l.run
