-- What is left of the proof of the most bytes that a table takes.
use Rattle.std.proofs.Common.{ℕ, ◌+◌, ◌*◌, ◌≤◌, length, mul-le-mul_left, mul_comm, List, arith}
use Rattle.choices.specs.declared.rule.Rule.{Rule}
use Rattle.table.specs.Pans.{span_of, row_bytes, pad_of, table_bytes, heaviest, width_of, pairs_of, most_bytes}
use Rattle.table.proofs.look.most_room_for.Goals as goal

row_most : (most top heavy : ℕ) → most ≤ top → row_bytes most heavy ≤ 2 * width_of top
unfolding row_bytes pad_of
row_most most top heavy low = omega arith

span_most : (r : Rule) (ws as' : List ℕ) → span_of r ws as' ≤ r.target + r.above
unfolding span_of
span_most r ws as' = omega arith

most_is : (r : Rule) (ws as' : List ℕ) → table_bytes r ws as' ≤ most_bytes r (length ws)
unfolding table_bytes
most_is r ws as' =
    let row = row_bytes (span_of r ws as') (heaviest r.age ws as') in
    let n = pairs_of (length ws) + 1 in
    omega (arith, mul_comm row n, mul_comm (2 * width_of (r.target + r.above)) n, mul-le-mul_left n (row_most (span_of r ws as') (r.target + r.above) (heaviest r.age ws as') (span_most r ws as')))

pub returns-clause-enough : goal.returns-clause-enough
returns-clause-enough c =
    let r = c.args.ring in
    rw (c.width_of.ensures, c.pairs.ensures) (most_is r.rule r.weights.now r.ages.now)
