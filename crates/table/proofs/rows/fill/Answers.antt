-- What is left of the proof that all rows are filled.
use Rattle.std.proofs.Common.{◌+◌, ◌-◌, ◌*◌, ◌≡◌, ◌<◌, length, sym, ◌∙◌, mul-one, mul-add, arith}
use Rattle.std.proofs.lemmas.List.{length-take-le, get_or_append_left}
use Rattle.table.specs.Pans.{pairs_of}
use Rattle.table.proofs.Filling.{filling_none, filling_more, filling_before, filling_free, filling_room, filling_blank}
use Rattle.table.proofs.rows.fill.Goals as goal

pub start_row-requires : goal.start_row-requires
start_row-requires c =
    let enough = rw (sym c.wide-wide.ensures) at c.requires.enough in
    omega (arith, length-take-le c.wide-wide.result c.args.room.now (omega (arith, enough, mul-add c.wide-wide.result (pairs_of (length c.args.ring.weights.now)) 1, mul-one c.wide-wide.result)), c.wide-wide.ensures, c.args.shape.some)

pub overflow_sub-before : goal.overflow_sub-before
overflow_sub-before c =
    let few = rw c.pairs-pair.ensures at c.loop-pair.auto.pair in
    let first = c.requires.free (2 * (c.loop-pair.pair - 1)) (omega (arith, few, c.args.ring.ordered.few, c.loop-pair-test.true)) in
    let second = c.requires.free (2 * (c.loop-pair.pair - 1) + 1) (omega (arith, few, c.args.ring.ordered.few, c.loop-pair-test.true)) in
    omega (arith, first, second, filling_before c.args.ring.ordered.paired c.loop-pair-test.true c.loop-pair.invariant)

pub loop-pair-init : goal.loop-pair-init
loop-pair-init c =
    let enough = rw (sym c.wide-wide.ensures) at c.requires.enough in
    let take = length-take-le c.wide-wide.result c.args.room.now (omega (arith, enough, mul-add c.wide-wide.result (pairs_of (length c.args.ring.weights.now)) 1, mul-one c.wide-wide.result)) in
    let long : length c.start_row.new.row ≡ c.wide-wide.result = omega (arith, c.start_row.auto.row, take) in
    let short : c.args.shape.pad < c.wide-wide.result = omega (arith, c.wide-wide.ensures, c.args.shape.some) in
    rw c.pairs-pair.ensures
    (filling_none _ _ _ _ _ _ _ _ _ c.args.ring.ordered.paired (omega (arith, c.wide-wide.ensures, c.args.shape.some)) c.requires.seen.free
    (get_or_append_left c.start_row.new.row _ 0 c.args.shape.pad (omega (arith, long, short)) ∙ c.start_row.ensures.none)
    (λ x ne low. get_or_append_left c.start_row.new.row _ 0 x (omega (arith, long)) ∙ c.start_row.ensures.rest x ne (omega (arith, take))))

pub add_pair-requires-clause-room : goal.add_pair-requires-clause-room
add_pair-requires-clause-room c =
    let few = rw c.pairs-pair.ensures at c.loop-pair.auto.pair in
    let more = filling_room c.loop-pair.invariant c.loop-pair-test.true few in
    let enough = rw (sym c.wide-wide.ensures) at c.requires.enough in
    omega (arith, more, c.wide-wide.ensures, enough, c.loop-pair.invariant.at)

pub add_pair-requires-clause-blank : goal.add_pair-requires-clause-blank
add_pair-requires-clause-blank c = filling_blank c.loop-pair.invariant (rw c.pairs-pair.ensures at c.loop-pair.auto.pair)

pub loop-pair-preserved : goal.loop-pair-preserved
loop-pair-preserved c =
    let h = c.add_pair.ensures in
    let few = rw c.pairs-pair.ensures at c.loop-pair.auto.pair in
    let inside : c.wide-wide.result - c.args.shape.pad ≡ 64 * c.args.shape.blocks = omega (arith, c.wide-wide.ensures) in
    filling_more c.args.ring.ordered.paired c.requires.old_filled c.loop-pair-test.true few (omega (arith, c.wide-wide.ensures, c.args.shape.some))
    c.loop-pair.invariant (c.requires.free _ (omega (arith, few, c.args.ring.ordered.few, c.loop-pair-test.true))) (c.requires.free _ (omega (arith, few, c.args.ring.ordered.few, c.loop-pair-test.true))) (omega (arith, c.saturating_sub-low.ensures))
    (λ x high low. omega (arith, c.min-high.ensures, filling_free c.loop-pair.invariant, c.requires.seen.free))
    (λ j less. h.same j (omega (arith, c.wide-wide.ensures))) (λ j less. rw inside (h.blank j less)) (λ x low below. rw c.wide-wide.ensures (h.made x low below)) (λ x high low. rw c.wide-wide.ensures (h.never x high (omega arith)))
