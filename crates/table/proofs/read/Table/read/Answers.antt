-- What is left of the proof that the first choice is read.
use Rattle.std.proofs.Common.{◌+◌, ◌-◌, ◌*◌, get_or, ◌≡◌, ◌<◌, ◌≤◌, length, arith}
use Rattle.table.specs.Pans.{pairs_of}
use Rattle.table.proofs.Filling.{row_below, rows_all}
use Rattle.table.proofs.Reading.{reading_none, reading_two, reading_left, reading_all}
use Rattle.table.proofs.OldNumber.{marks_small, old_small, old_all}
use Rattle.table.proofs.read.Table.read.Goals as goal

pub loop-pair-init : goal.loop-pair-init
loop-pair-init c =
    let all : pairs_of (length c.args.self.ring.weights.now) - 0 ≡ pairs_of (length c.args.self.ring.weights.now) = omega arith in
    (0, rw c.top-row.ensures (reading_none (rows_all c.requires.rows) (omega (arith, c.args.self.whole, c.requires.within)) c.requires.some), rw all c.top-row.ensures, omega (arith, c.requires.old_number))

pub opens-opens-requires-clause-blank : goal.opens-opens-requires-clause-blank
opens-opens-requires-clause-blank c =
    let n = pairs_of (length c.args.self.ring.weights.now) in
    let few : c.loop-pair.pair < n = rw c.pairs-pair-end.ensures at c.loop-pair-test.true in
    let below = row_below _ _ _ _ _ few c.loop-pair.invariant.2 in
    λ j short.
    let e : c.loop-pair.row - (c.args.self.shape.pad + 64 * c.args.self.shape.blocks) - c.args.self.shape.pad ≡ (c.args.self.shape.pad + 64 * c.args.self.shape.blocks) * (n - (c.loop-pair.pair + 1)) = omega (arith, below.1) in
    rw e (c.requires.rows.blank (c.loop-pair.pair + 1) j (omega arith) (omega arith) short)

pub overflow_sub-left : goal.overflow_sub-left
overflow_sub-left c =
    let few = rw c.pairs-pair-end.ensures at c.loop-pair-test.true in
    let one = c.requires.free (2 * c.loop-pair.pair) (omega (arith, few, c.args.self.ring.ordered.few)) in
    let other = c.requires.free (2 * c.loop-pair.pair + 1) (omega (arith, few, c.args.self.ring.ordered.few)) in
    let below = row_below _ _ _ _ _ few c.loop-pair.invariant.2 in
    rw (c.taken.ensures, c.taken-in-loop-pair.ensures)
    (reading_left c.args.self.ring.ordered.paired c.args.self.old_filled c.requires.rows few below.1 (get_or c.args.free.now (2 * c.loop-pair.pair) 0) (get_or c.args.free.now (2 * c.loop-pair.pair + 1) 0) c.loop-pair.invariant.1
    c.opens-opens.ensures.first c.opens-opens.ensures.second)

pub overflow_sub-row : goal.overflow_sub-row
overflow_sub-row c =
    let few = rw c.pairs-pair-end.ensures at c.loop-pair-test.true in
    omega (arith, (row_below _ _ _ _ _ few c.loop-pair.invariant.2).0, c.wide-row.ensures)

pub overflow_add-pans : goal.overflow_add-pans
overflow_add-pans c =
    let few = rw c.pairs-pair-end.ensures at c.loop-pair-test.true in
    omega (arith, marks_small (2 * c.loop-pair.pair) c.opens-opens.result.0 c.opens-opens.result.1 (omega (arith, few, c.args.self.ring.ordered.few)), c.mark.ensures, c.mark-in-loop-pair.ensures)

pub overflow_add-pans-in-loop-pair : goal.overflow_add-pans-in-loop-pair
overflow_add-pans-in-loop-pair c =
    let few = rw c.pairs-pair-end.ensures at c.loop-pair-test.true in
    let ring = c.args.self.ring in
    let read = old_small ring.rule.age ring.ages.now (2 * c.loop-pair.pair) c.loop-pair.invariant.0 (omega (arith, ring.ordered.few, ring.ordered.paired)) (omega (arith, few, ring.ordered.few)) c.loop-pair.invariant.1.small in
    omega (arith, read, c.loop-pair.invariant.3, marks_small (2 * c.loop-pair.pair) c.opens-opens.result.0 c.opens-opens.result.1 (omega (arith, few, ring.ordered.few)), c.mark.ensures, c.mark-in-loop-pair.ensures)

pub loop-pair-preserved : goal.loop-pair-preserved
loop-pair-preserved c =
    let few = rw c.pairs-pair-end.ensures at c.loop-pair-test.true in
    let one = c.requires.free (2 * c.loop-pair.pair) (omega (arith, few, c.args.self.ring.ordered.few)) in
    let other = c.requires.free (2 * c.loop-pair.pair + 1) (omega (arith, few, c.args.self.ring.ordered.few)) in
    let below = row_below _ _ _ _ _ few c.loop-pair.invariant.2 in
    let h =
    reading_two c.args.self.ring.ordered.paired c.args.self.old_filled c.requires.rows few below.1 (c.loop-pair.left - (c.taken.result + c.taken-in-loop-pair.result)) c.loop-pair.invariant.1
    (rw (one, other) at c.opens-opens.ensures.first) (rw (one, other) at c.opens-opens.ensures.second)
    (omega (arith, rw one at c.taken.ensures, rw other at c.taken-in-loop-pair.ensures)) in
    rw c.wide-row.ensures (h.0, h.1, below.1, omega (arith, h.2, c.loop-pair.invariant.3, c.mark.ensures, c.mark-in-loop-pair.ensures))

pub returns : goal.returns
returns c =
    let past : length c.args.self.ring.weights.now ≤ 2 * c.loop-pair.pair = omega (arith, rw c.pairs-pair-end.ensures at c.loop-pair-test.false) in
    let none = old_all c.args.self.ring.rule.age c.args.self.ring.ages.now (2 * c.loop-pair.pair) (omega (arith, past, c.args.self.ring.ordered.paired)) in
    let read : c.loop-pair.pans ≡ c.loop-pair.invariant.0 = omega (arith, rw none at c.loop-pair.invariant.3) in
    rw read (reading_all c.loop-pair.invariant.1 past c.args.self.ring.ordered.paired)
