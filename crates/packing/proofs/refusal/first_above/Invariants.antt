-- None of what is gone over is above the limit.
use Rattle.std.proofs.Common.{◌≡◌, ◌+◌, length}
use Rattle.packing.specs.Refusals.{first_above}
use Rattle.packing.proofs.refusal.first_above.Given as goal

abbrev pub invariant-loop-rest : goal.invariant-loop-rest
invariant-loop-rest l = (first_above 1000000 l.from l.numbers ≡ first_above 1000000 l.at l.rest) × (l.at + length l.rest ≡ l.from + length l.numbers)

abbrev pub decreases-loop-rest : goal.decreases-loop-rest
decreases-loop-rest l = length l.rest
