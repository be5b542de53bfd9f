-- The entries are right for the pans taken in so far.
use Rattle.std.specs.Slice.Iter.{iter_rest}
use Rattle.std.specs.Iterator.Adapters.{rev_source}
use Rattle.halves_sieves.proofs.Weighing.{Weighing}
use Rattle.halves_sieves.proofs.most.with_pans.Given as goal

abbrev pub invariant-loop-weight : goal.invariant-loop-weight
invariant-loop-weight l =
    (goal.iterator-loop-weight).can_next l.weight-iterator × (goal.iterator-loop-weight).is_finite l.weight-iterator
    × Weighing l.weights (iter_rest (rev_source l.weight-iterator)) l.initial.most l.most
