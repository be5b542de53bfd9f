-- What the loop over the pans keeps: those before the one that is looked at are written.
use Rattle.std.proofs.Common.{◌≡◌, ℕ, ◌<◌, ltb, get_or}
use Rattle.exact.specs.Pans.{if_free}
use Rattle.exact.proofs.free.free_weights.Given as goal

abbrev pub invariant-loop-pan : goal.invariant-loop-pan
invariant-loop-pan l = (k : ℕ) → k < l.pan → get_or l.free k 0 ≡ if_free (ltb (get_or l.ring.ages.now k 0) l.ring.rule.age) (get_or l.ring.weights.now k 0)
