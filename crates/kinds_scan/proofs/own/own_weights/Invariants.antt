-- What the weights of one kind are so far.
use Rattle.std.proofs.Common.{◌≡◌, ℕ, ◌<◌, cond, eqb, length, get_or}
use Rattle.kinds_scan.proofs.own.own_weights.Given as goal

abbrev pub invariant-loop-i : goal.invariant-loop-i
invariant-loop-i l =
    (length l.own ≡ 24)
    × ((k : ℕ) → k < l.i → get_or l.own k 0 ≡ cond (eqb (get_or l.mixed.kinds.now k 0) l.kind) (get_or l.mixed.ring.weights.now k 0) 0)
