-- What the making of the tallies keeps: the entries so far are those of their choices.
use Rattle.std.proofs.Common.{◌≡◌, ℕ, ◌<◌, length, get_or}
use Rattle.choices.specs.Numbered.{choice_of}
use Rattle.choices.specs.Tallied.{Tallied}
use Rattle.search.specs.Groups.{part, nothing}
use Rattle.search.proofs.tallies.Tallies.of.Given as goal

abbrev pub invariant-loop-i : goal.invariant-loop-i
invariant-loop-i l =
    (length l.group-items ≡ 256)
    × ((k : ℕ) → k < l.i → Tallied l.ring.weights.now l.ring.ages.now l.ring.rule.age (choice_of (length l.ring.weights.now) (part k)) (get_or l.group-items k nothing))
