-- What the loop keeps: no pan before the one that is looked at is the first of four.
use Rattle.std.proofs.Common.{ℕ, ◌<◌}
use Rattle.exact.specs.Few.{Heads}
use Rattle.exact.proofs.picks.four.Given as goal

abbrev pub invariant-loop-pan : goal.invariant-loop-pan
invariant-loop-pan l = (i : ℕ) → i < l.pan → Heads 3 l.free l.weight i → ⊥
