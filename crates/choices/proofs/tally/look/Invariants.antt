-- What the look over the pans keeps from turn to turn.
use Rattle.std.specs.Slice.Iter.{iter_rest}
use Rattle.std.specs.Iterator.Adapters.{zip_first, zip_second, rev_source}
use Rattle.choices.specs.Numbered.{choice_of}
use Rattle.choices.proofs.Looking.{Looking}
use Rattle.std.proofs.Common.{◌≡◌, length}
use Rattle.choices.proofs.tally.look.Given as goal

abbrev pub invariant-loop-w : goal.invariant-loop-w
invariant-loop-w l =
    (goal.iterator-loop-w).can_next l.w-iterator × (goal.iterator-loop-w).is_finite l.w-iterator
    × ((rev_source (zip_second l.w-iterator)).start ≡ 0)
    × Looking l.ring.rule.age l.ring.weights.now l.ring.ages.now (choice_of (length l.ring.weights.now) l.choice) (iter_rest (zip_first (zip_first l.w-iterator))) (iter_rest (zip_second (zip_first l.w-iterator))) (rev_source (zip_second l.w-iterator)).end l.choice l.seen
