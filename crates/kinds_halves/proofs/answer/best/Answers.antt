-- What is left of the proof that the answer is the best that mixes.
use Rattle.std.proofs.Common.{arith}
use Rattle.kinds_halves.proofs.Mixing.{back_shut, front_clear, least_is_best, none_mixes, tops_clear, tops_low}
use Rattle.kinds_halves.proofs.answer.best.Goals as goal

pub invariant_of-sides : goal.invariant_of-sides
invariant_of-sides c =
    let m = c.args.mixed in
    let ring = m.ring in
    record {
      clear = front_clear ring.rule m.windows.now m.kinds.now ring.weights.now ring.ages.now ring.ordered.few ring.ordered.paired ring.ordered.light c.fill_for-halves.result c.fill_for-halves.ensures;
      shut = back_shut ring.rule m.windows.now m.kinds.now ring.weights.now ring.ages.now ring.ordered.few ring.ordered.paired ring.ordered.light c.fill_for-halves.result c.fill_for-halves.ensures;
    }

pub least-place-requires : goal.least-place-requires
least-place-requires c =
    let m = c.args.mixed in
    let ring = m.ring in
    record {
      low = tops_low ring.rule m.windows.now m.kinds.now ring.weights.now ring.ages.now ring.ordered.few ring.ordered.paired ring.ordered.light c.fill_for-halves.result c.fill_for-halves.ensures;
      clear = tops_clear ring.rule m.windows.now m.kinds.now ring.weights.now ring.ages.now ring.ordered.few ring.ordered.paired ring.ordered.light c.fill_for-halves.result c.fill_for-halves.ensures;
      within = rw c.of-sums.ensures (omega arith);
    }

pub returns-then-place-to : goal.returns-then-place-to
returns-then-place-to c =
    let m = c.args.mixed in
    let ring = m.ring in
    least_is_best ring.rule m.windows.now m.kinds.now ring.weights.now ring.ages.now ring.ordered.few ring.ordered.paired ring.ordered.light c.fill_for-halves.result c.fill_for-halves.ensures
    _ _ (omega (arith, ring.ruled.target, c.from-from.ensures)) (rw c.of-sums.ensures at c.least-place.ensures) _ c.if-place-to.true c.bag_in.ensures

pub returns-else-place-to : goal.returns-else-place-to
returns-else-place-to c =
    let m = c.args.mixed in
    let ring = m.ring in
    none_mixes ring.rule m.windows.now m.kinds.now ring.weights.now ring.ages.now ring.ordered.few ring.ordered.paired ring.ordered.light c.fill_for-halves.result c.fill_for-halves.ensures
    _ _ (omega (arith, ring.ruled.target, c.from-from.ensures)) (rw c.of-sums.ensures at c.least-place.ensures) c.if-place-to.false
