-- What the loop over the pans keeps: the sums so far.
use Rattle.std.specs.Slice.Iter.{iter_rest}
use Rattle.std.specs.Iterator.Adapters.{enumerate_count, enumerate_source, zip_first, zip_second}
use Rattle.exact.proofs.SummingOld.{SummingOld}
use Rattle.exact.proofs.old.old_pans.Given as goal

abbrev pub invariant-loop-pan : goal.invariant-loop-pan
invariant-loop-pan l =
    (goal.iterator-loop-pan).can_next l.pan-iterator × (goal.iterator-loop-pan).is_finite l.pan-iterator
    × SummingOld l.ring.rule.age l.ring.weights.now l.ring.ages.now (iter_rest (zip_first (enumerate_source l.pan-iterator))) (iter_rest (zip_second (enumerate_source l.pan-iterator)))
    (enumerate_count l.pan-iterator) l.seen
