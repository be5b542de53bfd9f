-- What the making of the sums keeps: the entries so far are those of their choices.
use Rattle.std.proofs.Common.{◌≡◌, ℕ, ◌<◌, [], length, get_or}
use Rattle.choices.specs.Numbered.{choice_of}
use Rattle.kinds.specs.Kinds.{weight_of_kind}
use Rattle.kinds_halves.specs.Passing.{part}
use Rattle.kinds_halves.proofs.sums.Sums.of.Given as goal

abbrev pub invariant-loop-i : goal.invariant-loop-i
invariant-loop-i l =
    (length l.group-items ≡ 256)
    × ((j : ℕ) → j < l.i → (k : ℕ) → k < 4 → get_or (get_or l.group-items j []) k 0 ≡ weight_of_kind k l.mixed.kinds.now l.mixed.ring.weights.now (choice_of (length l.mixed.ring.weights.now) (part j)))
